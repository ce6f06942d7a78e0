-- The run of a whole suite in order, within the suite's limit of units, and how it is refused.
use Rattle.std.specs.Prelude.{◌≡◌, ℕ, ◌+◌, ◌-◌, List, length, Some, None, nat_le, if◌then◌else◌}
use Rattle.std.specs.List.{range_with_len}
use Rattle.jvm_model.specs.declared.outcome.Outcome.{Outcome}
use Rattle.jvm_model.specs.declared.program.Program.{Program}
use Rattle.jvm_model.specs.declared.values.Touch.{Touch}
use Rattle.jvm_model.specs.{State.test_at, World.World}
use Rattle.jvm_model.specs.Suite.{one_test, suite_fault, fault_on, over_budget, over_suite}
use Rattle.vm_mem.specs.Trace.{Trace}
use Rattle.test_run.specs.{Lists.RanList, Outcomes.given_in, Outcomes.TracesOne, Running.least}
use Rattle.detect_run.specs.declared.fault.DetectFault.{DetectFault}
use Rattle.detect_run.specs.declared.fault.DetectFault.TheVariants as fault

-- a refusal is the suite's first fault, or want of memory
abbrev pub IsSuiteFault : Program → DetectFault → Type 0
IsSuiteFault p (fault.OverBudget t b) = suite_fault p ≡ Some (over_budget t b)
IsSuiteFault p (fault.OverSuite t) = suite_fault p ≡ Some (over_suite t)
IsSuiteFault p fault.NoMemory = Unit {0}

-- how a test is answered that passes the smaller of its budget and the rest of the suite's units
abbrev pub over_of : Program → ℕ → ℕ → DetectFault
over_of p t rest = if nat_le (test_at p t).budget rest then fault.OverBudget t (test_at p t).budget else fault.OverSuite t

-- a test that is refused: want of memory, or it gives nothing within its budget and the rest of the suite's units
abbrev pub IsOneRefused : Program → World → ℕ → ℕ → DetectFault → Type 0
IsOneRefused p w t rest fault.NoMemory = Unit {0}
IsOneRefused p w t rest f = (one_test p w t (least p t rest) ≡ None) × (f ≡ over_of p t rest)

-- a test gave this outcome within its budget and the rest of the suite's units
pub record RanOne {M : Type 0} (world : M → World) (follows : M → Trace → List Touch → Type 0) (p : Program) (old new : M) (t rest : ℕ) (o : Outcome) : Type 0 where
  pub gives : one_test p (world old) t (least p t rest) ≡ given_in p t (world old) (least p t rest) (Some o) (world new)
  pub told : TracesOne p t (world old) (least p t rest) follows old new

-- the tests up to i, and those after them
abbrev pub tests_to : ℕ → List ℕ
tests_to i = range_with_len 1 i

abbrev pub tests_after : Program → ℕ → List ℕ
tests_after p i = range_with_len (i + 1) (length p.tests - i)

-- the first i tests ran, and this rest of the suite's units is left for the others
pub record Along {M : Type 0} (world : M → World) (follows : M → Trace → List Touch → Type 0) (p : Program) (old new : M) (i rest : ℕ) (os : List Outcome) (begun now : ℕ) : Type 0 where
  pub ran : RanList world follows p old new (tests_to i) os begun now
  pub faults : fault_on p (world new) rest (tests_after p i) ≡ suite_fault p
