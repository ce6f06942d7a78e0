-- The whole suite run in order, and lists of tests.
use Rattle.std.specs.Prelude.{◌≡◌, ℕ, ◌+◌, ◌≤◌, List, [], length, map, Some, None}
use Rattle.jvm_model.specs.{declared.outcome.Outcome.Outcome, State.test_at}
use Rattle.jvm_model.specs.Suite.{Given, suite_fault, runs, first_over}
use Rattle.suite_load.specs.declared.loaded.Loaded.{Loaded}
use Rattle.electrictest.specs.{declared.status.Status.Status, Begun.OnlyOver, Orders.IsUnlawful, Orders.IsOverOrder, Records.Beginning, TestNames.test_name, TestNames.units_in}
use Rattle.electrictest.specs.declared.status.Status.TheVariants as ends
use Rattle.electrictest.specs.declared.status.OverFault.TheVariants as over
use Rattle.electrictest.specs.Wholes.{IsOverWhole, outcomes_of}

-- the run of a whole suite that is within its limits
pub record Ran (l : Loaded) (outcomes : List Outcome) : Type 0 where
  pub within : suite_fault l.checked ≡ None
  pub ran : outcomes_of l.checked ≡ Some outcomes
  pub few : length outcomes ≤ 1024

-- a run that is refused: want of memory, or the suite's fault
abbrev pub RunRefused : Loaded → Status → Type 0
RunRefused l = OnlyOver (IsOverWhole l)

-- ---- the tests of a list

-- they ran in its order on one heap, and their units are counted
pub record RanInOrder (l : Loaded) (tests : List ℕ) (begun now : ℕ) (outcomes : List Outcome) : Type 0 where
  pub given : List Given
  pub ran : runs l.checked tests ≡ Some given
  pub gives : outcomes ≡ map (λ x. x.outcome) given
  pub each : length outcomes ≡ length tests
  pub counts : now ≡ begun + units_in outcomes

-- a run that is refused: want of memory, or the first test that passes its budget
abbrev pub ListRefused : Loaded → List ℕ → Status → Type 0
ListRefused l tests = OnlyOver (λ f. (t : ℕ) × (first_over l.checked tests ≡ Some t) × (f ≡ over.OverBudget (test_name l.names t) (test_at l.checked t).budget []))

-- an order that is refused: want of memory, an order that isn't lawful, or a test of a lawful one that passes its budget
abbrev pub OrderRefused : Loaded → Beginning → Status → Type 0
OrderRefused l b ends.NoMemory = Unit {0}
OrderRefused l b (ends.Input f) = IsUnlawful l b f
OrderRefused l b (ends.Over f) = IsOverOrder l b f
OrderRefused l b _ = ⊥
