-- What contracts say of the use of a class.
use Rattle.std.specs.Prelude.{◌≡◌, ◌≢◌, ℕ, List, Bool, true, false, Result, IfOk}
use Rattle.jvm_model.specs.{declared.program.Program.Program, declared.values.Touch.Touch, World.World, Entries.Entries}
use Rattle.jvm_model.specs.Rows.{Used, ready, begun, refused, begin}
use Rattle.jvm_model.specs.View.{Counted, over, ended, counted, paid, touched, IsSafe, Any}
use Rattle.vm_mem.specs.Trace.{Trace}
use Rattle.class_init.specs.declared.uses.{Use.Use, Use.TheVariants.Ready, Use.TheVariants.Begun, Use.TheVariants.Fault, Use.TheVariants.Over}

-- whether the answer has counted the 1 of the step
abbrev pub counts_step : Use → Bool
counts_step Ready = false
counts_step Begun = true
counts_step (Fault c) = false
counts_step Over = true

-- how the use of a class ended, where the code answered this and left these
abbrev pub use_outcome : Use → Entries → World → ℕ → Counted Used
use_outcome Ready s w left = ended ready w left
use_outcome Begun s w left = ended (begun s) w left
use_outcome (Fault c) s w left = ended (refused c) w left
use_outcome Over s w left = over

-- a memory is of the program, and each location that the use of the class meets is there
abbrev pub IsUsable : {M : Type 0} → ℕ → Program → (M → Program) → (M → World) → M → Entries → Type 0
IsUsable c p program world m s = (p ≡ program m) × IsSafe Any (begin p c s) (world m)

-- the use of the class, with the 1 of the step where the answer counts it, ends as a call answered
abbrev pub RefinesUse : ℕ → Program → World → Entries → ℕ → Use → Entries → World → ℕ → Type 0
RefinesUse c p w s left u s' w' left' = counted (paid (counts_step u) (begin p c s)) w left ≡ use_outcome u s' w' left'

-- unless its cost is above the units left, a memory then follows the touches of the use
abbrev pub TracesUse : {M : Type 0} → ℕ → Program → World → Entries → Use → (M → Trace → List Touch → Type 0) → M → M → Type 0
TracesUse c p w s u follows old new = u ≢ Over → (h : Trace) (ts : List Touch) → follows old h ts → follows new h (touched (begin p c s) w ts)

-- A call uses the class over a memory, which stays of its program. Where it answers, it ended as the use, with these entries
-- and units left, and the memory follows the touches.
abbrev pub MakesUse : {M E : Type 0} → ℕ → (M → Program) → (M → World) → (M → Trace → List Touch → Type 0) → M → M
    → Entries → ℕ → Result Use E → Entries → ℕ → Type 0
MakesUse c program world follows old new s left r s' left' = (program new ≡ program old) × IfOk r (λ u.
    RefinesUse c (program old) (world old) s left u s' (world new) left'
    × TracesUse c (program old) (world old) s u follows old new)
