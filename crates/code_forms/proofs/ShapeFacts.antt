-- What is known of the operands of an instruction by its opcode.
use Rattle.std.proofs.Common.{◌≡◌, ℕ, ◌%◌, ◌^◌, ◌<◌, ◌≤◌, ℤ, pos, Bool, true, false, eqb, leb, ◌||◌, List, [], ◌∷◌, get_or, Option, Some, refl, sym, ap, subst, ◌∙◌, arith, inl, inr}
use Rattle.std.specs.Int.{w32, cast_unsigned}
use Rattle.std.specs.Prelude.{not, ◌&&◌, is_some}
use Rattle.std.proofs.lemmas.Bool.{eqb-true, le-leb, agree_below, agree_below_at, Decides.nat_tests}
use Rattle.class_pool.specs.{declared.pool.Entry.Entry, Pool.entry_of}
use Rattle.class_pool.specs.declared.pool.Entry.TheVariants as entry
use Rattle.code_decode.specs.{declared.instructions.RawOp.RawOp, declared.opcodes.Shape.Shape, Judging.named_fit, Opcodes.shape_of, Opcodes.takes_local}
use Rattle.code_decode.specs.declared.judging.Fit.TheVariants as fit
use Rattle.code_decode.specs.declared.opcodes.Shape.TheVariants as shape
use Rattle.code_decode.specs.declared.opcodes.Named.TheVariants as named
use Rattle.code_decode.proofs.{ArgFacts.OneNumber, ArgFacts.IndexCount, ArgFacts.CallsInterface, ArgFacts.ArgFacts, CodeFacts.PlainFacts, CodeFacts.OpFacts}
use Rattle.code_forms.specs.Operands.{number_in, index_in}
use Rattle.code_forms.proofs.{FormCases.is_untyped, FormCases.is_single, FormCases.IsTyped, FormFacts.CallsBySort}
use Rattle.et_base.proofs.Cases.{by_test}

-- ---- the shape of an opcode

shape_near : (n : ℕ) → 153 ≤ n → n ≤ 167 → shape_of n ≡ Some shape.Branch
unfolding shape_of
shape_near n low high = grind (arith, nat_tests)

shape_null : (n : ℕ) → 198 ≤ n → n ≤ 199 → shape_of n ≡ Some shape.Branch
unfolding shape_of
shape_null n low high = grind (arith, nat_tests)

-- the opcodes from 186 on that are left where those of no type, new, anewarray, checkcast and instanceof are excluded
abbrev is_left : ℕ → Bool
is_left n = leb 186 n && not (is_untyped n || is_single n)

-- multianewarray alone of them has a shape
one_left : agree_below (λ n. is_left n && is_some (shape_of n)) (λ n. eqb n 197) 256 ≡ true
unfolding shape_of
one_left = refl

-- ---- the operands

high_local : (n : ℕ) → 133 ≤ n → takes_local n ≡ false
high_local n low = grind (arith, nat_tests)

pub not_wide : (slots : List (Option Entry)) (ops : List RawOp) (total : ℕ) (o : RawOp) → OpFacts slots ops total o → 133 ≤ o.opcode → o.wide ≡ false
not_wide slots ops total o facts low = by_test o.wide
    (λ h. elim (facts.wide h) [
      | inl local ↦ (let no : takes_local o.opcode ≡ false = high_local o.opcode low in absurd (let yes : takes_local o.opcode ≡ true = local.0 in cc))
      | inr more ↦ absurd (omega (arith, low, more.0))
    ])
    (λ h. h)

some_shape : (a b : Shape) → Some a ≡ Some b → a ≡ b
some_shape a b e = cc

-- an opcode from 133 on has its shape's operands
pub args_of : (slots : List (Option Entry)) (ops : List RawOp) (total : ℕ) (o : RawOp) → OpFacts slots ops total o → 133 ≤ o.opcode → (form : Shape) → shape_of o.opcode ≡ Some form → ArgFacts slots ops total form o.args
args_of slots ops total o facts low form is =
    let plain : PlainFacts slots ops total o.opcode o.args = facts.plain (not_wide slots ops total o facts low) in
    subst (λ f. ArgFacts slots ops total f o.args) (some_shape plain.form form (sym plain.shaped ∙ is)) plain.operands

pub branch_args : (slots : List (Option Entry)) (ops : List RawOp) (total : ℕ) (o : RawOp) → OpFacts slots ops total o → 153 ≤ o.opcode → o.opcode ≤ 167 → ArgFacts slots ops total shape.Branch o.args
branch_args slots ops total o facts low high = args_of slots ops total o facts (omega (arith, low)) shape.Branch (shape_near o.opcode low high)

pub null_args : (slots : List (Option Entry)) (ops : List RawOp) (total : ℕ) (o : RawOp) → OpFacts slots ops total o → 198 ≤ o.opcode → o.opcode ≤ 199 → ArgFacts slots ops total shape.Branch o.args
null_args slots ops total o facts low high = args_of slots ops total o facts (omega (arith, low)) shape.Branch (shape_null o.opcode low high)

pub far_args : (slots : List (Option Entry)) (ops : List RawOp) (total : ℕ) (o : RawOp) → OpFacts slots ops total o → o.opcode ≡ 200 → ArgFacts slots ops total shape.FarBranch o.args
unfolding shape_of
far_args slots ops total o facts is = args_of slots ops total o facts (omega (arith, is)) shape.FarBranch (ap shape_of is)

pub table_args : (slots : List (Option Entry)) (ops : List RawOp) (total : ℕ) (o : RawOp) → OpFacts slots ops total o → o.opcode ≡ 170 → ArgFacts slots ops total shape.Table o.args
unfolding shape_of
table_args slots ops total o facts is = args_of slots ops total o facts (omega (arith, is)) shape.Table (ap shape_of is)

pub look_up_args : (slots : List (Option Entry)) (ops : List RawOp) (total : ℕ) (o : RawOp) → OpFacts slots ops total o → o.opcode ≡ 171 → ArgFacts slots ops total shape.Lookup o.args
unfolding shape_of
look_up_args slots ops total o facts is = args_of slots ops total o facts (omega (arith, is)) shape.Lookup (ap shape_of is)

-- multianewarray is the one whose form is left when new, anewarray, checkcast and instanceof are excluded
pub nested_args : (slots : List (Option Entry)) (ops : List RawOp) (total : ℕ) (o : RawOp) → OpFacts slots ops total o → IsTyped o.opcode → is_single o.opcode ≡ false → ArgFacts slots ops total shape.Dimensions o.args
unfolding shape_of
nested_args slots ops total o facts t single =
    let n = o.opcode in
    let low : 133 ≤ n = omega (arith, t.high) in
    let plain : PlainFacts slots ops total n o.args = facts.plain (not_wide slots ops total o facts low) in
    let left : (is_left n && is_some (shape_of n)) ≡ true = rw (le-leb 186 n t.high, t.typed, single, plain.shaped) refl in
    let is : n ≡ 197 = eqb-true n 197 (sym (agree_below_at (λ n. is_left n && is_some (shape_of n)) (λ n. eqb n 197) 256 n one_left facts.opcode) ∙ left) in
    args_of slots ops total o facts low shape.Dimensions (ap shape_of is)

-- ---- the entry that a call names

-- the first operand as an index
pub first_index : (o : RawOp) (n : ℕ) (zs : List ℤ) → o.args ≡ pos n ∷ zs → n < 2 ^ 16 → index_in o ≡ n
first_index o n zs is small =
    let number : number_in o 0 ≡ n = ap (λ (args : List ℤ). cast_unsigned w32 (get_or args 0 (pos 0))) is in
    let same : number_in o 0 % 65536 ≡ number_in o 0 = omega (arith, number, small) in
    same ∙ number

virtual_entry : (slots : List (Option Entry)) (e : Option Entry) → named_fit named.Virtual slots e ≡ fit.Right → (class : ℕ) × (pair : ℕ) × (e ≡ Some (entry.Method class pair))
virtual_entry slots (Some (entry.Method class pair)) h = (class, pair, refl)
virtual_entry slots _ h = absurd cc

interface_entry : (slots : List (Option Entry)) (e : Option Entry) → named_fit named.Interface slots e ≡ fit.Right → (class : ℕ) × (pair : ℕ) × (e ≡ Some (entry.InterfaceMethod class pair))
interface_entry slots (Some (entry.InterfaceMethod class pair)) h = (class, pair, refl)
interface_entry slots _ h = absurd cc

-- invokevirtual and invokeinterface name entries of their sorts
pub calls_by_sort : (slots : List (Option Entry)) (ops : List RawOp) (total : ℕ) (o : RawOp) → OpFacts slots ops total o → CallsBySort o (entry_of slots (index_in o))
unfolding shape_of
calls_by_sort slots ops total o facts = record {
  virtual = λ is.
      let a : OneNumber (2 ^ 16) (λ n. named_fit named.Virtual slots (entry_of slots n) ≡ fit.Right) o.args = args_of slots ops total o facts (omega (arith, is)) (shape.Entry named.Virtual) (ap shape_of is) in
      virtual_entry slots (entry_of slots (index_in o)) (ap (λ n. named_fit named.Virtual slots (entry_of slots n)) (first_index o a.value [] a.is a.small) ∙ a.so);
  interface = λ is.
      let a : IndexCount (CallsInterface slots) o.args = args_of slots ops total o facts (omega (arith, is)) shape.Interface (ap shape_of is) in
      interface_entry slots (entry_of slots (index_in o)) (ap (λ n. named_fit named.Interface slots (entry_of slots n)) (first_index o a.index (pos a.count ∷ []) a.is a.small) ∙ a.so.0);
}
