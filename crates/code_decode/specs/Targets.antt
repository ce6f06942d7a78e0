-- The places in a code that its instructions lead to.
use Rattle.std.specs.Prelude.{◌≡◌, ℕ, ℤ, pos, negsuc, ◌%◌, List, [], ◌∷◌, length, Option, Some, Result, Ok, Bool, true, false, not, nat_lt, ◌==◌, ◌&&◌, ◌||◌, slice_index_or}
use Rattle.std.specs.List.{list_all, enumerate_from}
use Rattle.class_pool.specs.declared.fault.{Fault.Fault, Fault.TheVariants.BadTarget}
use Rattle.et_base.specs.Answers.{◌>>=◌, tested}
use Rattle.code_decode.specs.{declared.instructions.RawOp.RawOp, declared.opcodes.Shape.Shape, Opcodes.is_within, Opcodes.shape_of}
use Rattle.code_decode.specs.declared.opcodes.Shape.TheVariants as shape

-- whether one of these instructions begins at a pc
abbrev pub has_start : List RawOp → ℕ → Bool
has_start [] pc = false
has_start (o ∷ ops) pc = o.pc == pc || has_start ops pc

-- whether that is so and the pc is inside of a code of total bytes
abbrev pub is_start : List RawOp → ℕ → ℤ → Bool
is_start ops total (pos pc) = has_start ops pc && nat_lt pc total
is_start ops total (negsuc n) = false

-- whether the operand at i is a place in the code: of a branch the only one; of tableswitch all but low
-- and high, at 1 and 2; of lookupswitch the default and each behind a key
abbrev pub is_place : Option Shape → ℕ → Bool
is_place (Some shape.Branch) i = true
is_place (Some shape.FarBranch) i = true
is_place (Some shape.Table) i = not (i == 1 || i == 2)
is_place (Some shape.Lookup) i = i % 2 == 0
is_place _ i = false

-- whether operands of an opcode can be places in the code
abbrev pub names_places : ℕ → Bool
names_places n = is_within 153 167 n || n == 170 || n == 171 || is_within 198 200 n

-- whether the test lets through each place among the operands of a form
abbrev pub leads : Option Shape → (ℤ → Bool) → List ℤ → Bool
leads form test args = list_all (λ p. not (is_place form p.0) || test p.1) (enumerate_from 0 args)

-- whether it lets through each place that an instruction leads to
abbrev pub leads_to : (ℤ → Bool) → RawOp → Bool
leads_to test o = leads (shape_of o.opcode) test o.args

-- the first of these instructions, if any, that leads to a place that the test doesn't let through
abbrev pub targets_fit : ℕ → (ℤ → Bool) → List RawOp → Result (Unit {0}) Fault
targets_fit method test [] = Ok tt
targets_fit method test (o ∷ ops) = tested (leads_to test o) (BadTarget method o.pc) >>= λ _. targets_fit method test ops

-- the marks say where these instructions start, below total
pub record Marks (marks : List Bool) (ops : List RawOp) (total : ℕ) : Type 0 where
  pub len : length marks ≡ total
  pub at : (i : ℕ) → slice_index_or marks i false ≡ (has_start ops i && nat_lt i total)

-- whether a place is marked
abbrev pub is_marked : List Bool → ℤ → Bool
is_marked marks (pos pc) = slice_index_or marks pc false
is_marked marks (negsuc n) = false
