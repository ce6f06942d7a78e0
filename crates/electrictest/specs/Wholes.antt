-- What a run of the whole suite gives (this project's).
use Rattle.std.specs.Prelude.{◌≡◌, ℕ, ◌+◌, List, [], ◌∷◌, length, map, Bool, Option, Some, None, option_map}
use Rattle.std.specs.List.{list_all}
use Rattle.jvm_model.specs.{declared.outcome.Outcome.Outcome, declared.program.Names.Names, declared.program.Program.Program, Texts.is_passed, Texts.report_on}
use Rattle.jvm_model.specs.Suite.{SuiteFault, over_budget, over_suite, runs, all_tests, suite_fault}
use Rattle.outside.specs.Depot.{Files}
use Rattle.suite_load.specs.declared.loaded.Loaded.{Loaded}
use Rattle.electrictest.specs.{declared.status.OverFault.OverFault, Begun.OfLoaded, Words.Ask, TestNames.test_name, TestNames.units_in}
use Rattle.electrictest.specs.declared.status.OverFault.TheVariants as over

-- the outcomes of the whole suite in order on one heap
unfoldable pub outcomes_of : Program → Option (List Outcome)
outcomes_of p = option_map (map (λ x. x.outcome)) (runs p (all_tests p))

-- how a suite is answered that passes a number of units
abbrev pub over_fault : Names → SuiteFault → OverFault
over_fault names (over_budget t budget) = over.OverBudget (test_name names t) budget []
over_fault names (over_suite t) = over.OverSuite (test_name names t)

-- the outcomes by the numbers of their tests, from t on
abbrev pub numbered : ℕ → List Outcome → List (ℕ × Outcome)
numbered t [] = []
numbered t (o ∷ os) = (t, o) ∷ numbered (t + 1) os

-- the report on the whole suite, without a record
abbrev pub report : Names → List Outcome → List ℕ
report names os = report_on names (length os) None (numbered 1 os)

-- a report on these outcomes
pub record IsWholeReport (l : Loaded) (passed : Bool) (text : List ℕ) (units : ℕ) : Type 0 where
  pub outcomes : List Outcome
  pub within : suite_fault l.checked ≡ None
  pub ran : outcomes_of l.checked ≡ Some outcomes
  pub verdicts : list_all is_passed outcomes ≡ passed
  pub reports : text ≡ report l.names outcomes
  pub sum : units ≡ units_in outcomes

-- a suite that passes a number of units
pub record IsOverWhole (l : Loaded) (f : OverFault) : Type 0 where
  pub found : SuiteFault
  pub passes : suite_fault l.checked ≡ Some found
  pub named : f ≡ over_fault l.names found

-- ---- by what is asked

abbrev pub IsReport : Files → Ask → Bool → List ℕ → ℕ → Type 0
IsReport files a passed text units = OfLoaded (λ l. IsWholeReport l passed text units) files a

abbrev pub IsOver : Files → Ask → OverFault → Type 0
IsOver files a f = OfLoaded (λ l. IsOverWhole l f) files a
