-- What contracts say of the row of a form over a memory.
use Rattle.std.specs.Prelude.{◌≡◌, ◌≢◌, ℕ, List, Result, IfOk}
use Rattle.jvm_model.specs.declared.{outcome.Next.Next, outcome.Next.TheVariants.Over, program.Program.Program, values.Touch.Touch}
use Rattle.jvm_model.specs.{World.World, Access.Access, Classes.next_place, Entries.Entries, Rows.Answer}
use Rattle.jvm_model.specs.View.{IsSafe, IsRow, counted, paid, counts_one, outcome, touched}
use Rattle.vm_mem.specs.Trace.{Trace}

-- A row or a part of one, in a program, on what it works on: the entries, or of a built-in method also what the test has of
-- its own.
abbrev pub Row : Type 0 → Type 0
Row S = Program → S → Access (Answer S)

-- a memory is of the program, in which there is a row, and each location that it meets is there
abbrev pub IsReady : {S M : Type 0} → Row S → Program → (M → Program) → (M → World) → M → S → Type 0
IsReady t p program world m s = (p ≡ program m) × IsSafe IsRow (t p s) (world m)

-- the place of the instruction after the one at the top frame's place
abbrev pub IsNext : Program → Entries → ℕ → Type 0
IsNext p s n = next_place p s.top.number s.top.pc ≡ n

-- the row, with the 1 of its step, ends as a call answered, with these entries, world and units left
abbrev pub Refines : {S : Type 0} → Row S → Program → World → S → ℕ → Next → S → World → ℕ → Type 0
Refines t p w s left x s' w' left' = counted (paid (counts_one p x) (t p s)) w left ≡ outcome x s' w' left'

-- unless its cost is above the units left, a memory then follows the touches of the row
abbrev pub Traces : {S M : Type 0} → Row S → Program → World → S → Next → (M → Trace → List Touch → Type 0) → M → M → Type 0
Traces t p w s x follows old new = x ≢ Over → (h : Trace) (ts : List Touch) → follows old h ts → follows new h (touched (t p s) w ts)

-- A call makes a row over a memory, which stays of its program. Where it answers, it ended as the row, with these entries
-- and units left, and the memory follows the touches.
abbrev pub Makes : {S M E : Type 0} → Row S → (M → Program) → (M → World) → (M → Trace → List Touch → Type 0) → M → M
    → S → ℕ → Result Next E → S → ℕ → Type 0
Makes t program world follows old new s left r s' left' = (program new ≡ program old) × IfOk r (λ x.
    Refines t (program old) (world old) s left x s' (world new) left' × Traces t (program old) (world old) s x follows old new)
