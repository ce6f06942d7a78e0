-- What contracts say of a step, and of what a part of one makes of a test's state.
use Rattle.std.specs.Prelude.{◌≡◌, ◌≢◌, ℕ, List, not, Option, Some, None, Result, IfOk}
use Rattle.jvm_model.specs.declared.values.Touch.{Touch}
use Rattle.jvm_model.specs.declared.outcome.{Next.Next, Verdict.Verdict}
use Rattle.jvm_model.specs.declared.program.Program.{Program}
use Rattle.jvm_model.specs.{World.World, Entries.Entries, Rows.answer, Natives.row_native, Step.after_native, Step.after_row}
use Rattle.jvm_model.specs.Access.{Access, spend, bind}
use Rattle.jvm_model.specs.State.{State, Turn, next, ended as judged}
use Rattle.vm_interp.specs.Abs.{abs}
use Rattle.vm_interp.specs.declared.state.State.{State as Kept}
use Rattle.jvm_model.specs.declared.library.Native.{Native}
use Rattle.vm_natives.specs.Rows.{with_own}
use Rattle.jvm_model.specs.View.{Counted, over, ended, counted, paid, counts_one, touched, IsSafe, IsTurn}
use Rattle.vm_mem.specs.{Refines.Row, Trace.Trace}
use Rattle.vm_interp.specs.declared.step_outcome.StepOutcome.{StepOutcome}
use Rattle.vm_interp.specs.declared.step_outcome.StepOutcome.TheVariants.{Running, Done, OutOfBudget}

-- a step or a part of one, in a program, from a test's state
abbrev pub Part : Type 0
Part = Program → State → Access Turn

-- a memory is of the program, in which the part comes to an end, and each location that it meets is there
abbrev pub IsFit : {M : Type 0} → Part → Program → (M → Program) → (M → World) → M → Kept → Type 0
IsFit t p program world m s = (p ≡ program m) × IsSafe IsTurn (t p (abs s)) (world m)

-- a memory and the selections that are kept are of the program
abbrev pub AreOf : Program → Program → Program → Type 0
AreOf p memory selections = (p ≡ memory) × (selections ≡ p)

-- how it ended, where the code answered this and left these; a verdict comes with what the test printed
abbrev pub step_outcome : StepOutcome → Kept → World → ℕ → Counted Turn
step_outcome Running s w left = ended (next (abs s)) w left
step_outcome (Done v) s w left = ended (judged v s.own.output) w left
step_outcome OutOfBudget s w left = over

-- the same where none says that the test goes on, and no verdict that the cost is above the units left
abbrev pub as_step_outcome : Option (Option Verdict) → StepOutcome
as_step_outcome None = Running
as_step_outcome (Some None) = OutOfBudget
as_step_outcome (Some (Some v)) = Done v

-- the part ends as a call answered, with this state, world and units left
abbrev pub RefinesPart : Part → Program → World → Kept → ℕ → StepOutcome → Kept → World → ℕ → Type 0
RefinesPart t p w s left x s' w' left' = counted (t p (abs s)) w left ≡ step_outcome x s' w' left'

-- unless its cost is above the units left, a memory then follows its touches
abbrev pub TracesPart : {M : Type 0} → Part → Program → World → Kept → StepOutcome → (M → Trace → List Touch → Type 0) → M → M → Type 0
TracesPart t p w s x follows old new = x ≢ OutOfBudget → (h : Trace) (ts : List Touch) → follows old h ts → follows new h (touched (t p (abs s)) w ts)

-- over a memory the part ends as a call answered, and the memory follows its touches
abbrev pub EndsPart : {M : Type 0} → Part → (M → Program) → (M → World) → (M → Trace → List Touch → Type 0) → M → M
    → Kept → ℕ → StepOutcome → Kept → ℕ → Type 0
EndsPart t program world follows old new s left x s' left' =
    RefinesPart t (program old) (world old) s left x s' (world new) left' × TracesPart t (program old) (world old) s x follows old new

-- A call makes a part of a step over a memory, which stays of its program. Where it answers, the part ends so, with this state
-- and units left.
abbrev pub MakesPart : {M E : Type 0} → Part → (M → Program) → (M → World) → (M → Trace → List Touch → Type 0) → M → M
    → Kept → ℕ → Result StepOutcome E → Kept → ℕ → Type 0
MakesPart t program world follows old new s left r s' left' =
    (program new ≡ program old) × IfOk r (λ x. EndsPart t program world follows old new s left x s' left')

-- a step that makes this row
abbrev pub by_row : Row Entries → Part
by_row r p s = spend 1 (bind (r p s.entries) (after_row p s))

-- what is left of a step whose row answered this, with the step's 1 where the row left it
abbrev pub after : Next → Part
after x p s = paid (not (counts_one p x)) (after_row p s (answer x s.entries))

-- a built-in method runs, with the 1 of the step
abbrev pub builtin_part : Native → Part
builtin_part x p s = spend 1 (bind (row_native p x (with_own s.entries s.own)) (after_native p s))
