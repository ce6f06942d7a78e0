-- The operands of an instruction, by their form, and the first fault among them.
use Rattle.std.specs.Prelude.{ℕ, ℤ, pos, List, [], ◌∷◌, Option, Result, Ok, Err, nat_lt, nat_le, ◌==◌, ◌&&◌}
use Rattle.std.specs.Int.{Width, w8, w16, cast_signed}
use Rattle.class_pool.specs.{declared.fault.Fault.Fault, declared.pool.Entry.Entry, Reading.number_or, Pool.entry_of}
use Rattle.et_base.specs.Answers.{◌>>=◌, tested}
use Rattle.code_decode.specs.declared.{place.Spot.Spot, judging.Fit.Fit, opcodes.Named.TheVariants.Interface, opcodes.Named.TheVariants.Nested}
use Rattle.code_decode.specs.declared.judging.Fit.TheVariants as fit
use Rattle.code_decode.specs.Place.{cut, wrong, foreign, target}
use Rattle.code_decode.specs.Judging.{named_fit, class_name, dimensions, interface_units, counts_units}

-- nothing where the operand is taken, else its fault
abbrev pub judged : Spot → ℕ → Fit → Result (Unit {0}) Fault
judged spot opcode fit.Right = Ok tt
judged spot opcode fit.Wrong = Err (wrong spot)
judged spot opcode fit.Foreign = Err (foreign spot opcode)

-- one operand of this width, whose value is what view makes of the number
unfoldable pub one_at : Width → (ℕ → ℤ) → Spot → List ℕ → Result (List ℤ × List ℕ) Fault
one_at w view spot bytes = do
  n ← number_or (cut spot) w bytes
  Ok (view n.0 ∷ [], n.1)

-- a signed number
abbrev pub signed_at : Width → Spot → List ℕ → Result (List ℤ × List ℕ) Fault
signed_at w spot bytes = one_at w (λ n. cast_signed w n) spot bytes

-- a local variable
abbrev pub local_at : Width → Spot → List ℕ → Result (List ℤ × List ℕ) Fault
local_at w spot bytes = one_at w (λ n. pos n) spot bytes

-- the place that a branch leads to
abbrev pub branch_at : Width → Spot → List ℕ → Result (List ℤ × List ℕ) Fault
branch_at w spot bytes = one_at w (λ n. target spot.total spot.pc (cast_signed w n)) spot bytes

-- a local variable and what is added to it
unfoldable pub increment_at : Width → Spot → List ℕ → Result (List ℤ × List ℕ) Fault
increment_at w spot bytes = do
  local ← number_or (cut spot) w bytes
  by ← number_or (cut spot) w local.1
  Ok (pos local.0 ∷ cast_signed w by.0 ∷ [], by.1)

-- an index of the pool, or another number, that has to fit
unfoldable pub fitting_at : Width → (ℕ → Fit) → Spot → ℕ → List ℕ → Result (List ℤ × List ℕ) Fault
fitting_at w fits spot opcode bytes = do
  n ← number_or (cut spot) w bytes
  right ← judged spot opcode (fits n.0)
  Ok (pos n.0 ∷ [], n.1)

-- an interface's method, the units of its arguments with the object, and a zero, which is no operand
unfoldable pub interface_at : List (Option Entry) → Spot → List ℕ → Result (List ℤ × List ℕ) Fault
interface_at slots spot bytes = do
  n ← number_or (cut spot) w16 bytes
  count ← number_or (cut spot) w8 n.1
  zero ← number_or (cut spot) w8 count.1
  right ← judged spot 185 (named_fit Interface slots (entry_of slots n.0))
  fits ← tested (counts_units (interface_units slots (entry_of slots n.0)) count.0 && zero.0 == 0) (wrong spot)
  Ok (pos n.0 ∷ pos count.0 ∷ [], zero.1)

-- an array class, and how many of its dimensions are made
unfoldable pub dimensions_at : List (Option Entry) → Spot → List ℕ → Result (List ℤ × List ℕ) Fault
dimensions_at slots spot bytes = do
  n ← number_or (cut spot) w16 bytes
  count ← number_or (cut spot) w8 n.1
  right ← judged spot 197 (named_fit Nested slots (entry_of slots n.0))
  fits ← tested (nat_lt 0 count.0 && nat_le count.0 (dimensions (class_name slots (entry_of slots n.0)))) (wrong spot)
  Ok (pos n.0 ∷ pos count.0 ∷ [], count.1)
