-- What a run of a selection on workers gives, by a loaded suite and what it begins with (this project's).
use Rattle.std.specs.Prelude.{◌≡◌, ℕ, List, [], ◌∷◌, ◌++◌, length, map, Bool, true, cond, Some}
use Rattle.std.specs.List.{list_all}
use Rattle.jvm_model.specs.{declared.outcome.Outcome.Outcome, State.test_at, Suite.seq, Suite.is_detected, Texts.is_passed, Texts.report_on}
use Rattle.order_law.specs.{Conflicts.Member, OwnRecord.edges_of}
use Rattle.order_law.specs.Plan.{Event, Legal, IsComplete, IsWholeThenPart, AreListedChainsOf}
use Rattle.run_core.specs.Run.{Gave}
use Rattle.worker_pool.specs.Plans.{GivesNone}
use Rattle.outside.specs.Depot.{Files}
use Rattle.selection_close.specs.Closed.{IsClosure, IsAscendingOf}
use Rattle.suite_load.specs.declared.loaded.Loaded.{Loaded}
use Rattle.electrictest.specs.declared.status.{Status.Status, OverFault.OverFault}
use Rattle.electrictest.specs.declared.status.OverFault.TheVariants as over
use Rattle.electrictest.specs.{Begun.IsOfSuite, Begun.OfBegun, Begun.OnlyOver, Logs.log_text, Records.Beginning, TestNames.test_name, TestNames.units_in, Words.Ask}

-- the tests of a list, each with the outcome that a history has of it
abbrev pub AreGiven : List Event → List ℕ → List (ℕ × Outcome) → Type 0
AreGiven es [] [] = Unit {0}
AreGiven es (t ∷ ts) (x ∷ xs) = (x.0 ≡ t) × Gave es t x.1 × AreGiven es ts xs
AreGiven es _ _ = ⊥

abbrev pub outcomes : List (ℕ × Outcome) → List Outcome
outcomes xs = map (λ x. x.1) xs

-- The closure of the selected tests, its chains, and how many different tests are selected.
pub record IsChosen (b : Beginning) (set : List ℕ) (chains : List (List ℕ)) (selected : ℕ) : Type 0 where
  pub closure : IsClosure b.said.edges b.tests set
  pub listed : AreListedChainsOf b.said.edges (λ t. Member t set) chains
  pub once : List ℕ
  pub differ : IsAscendingOf b.tests once
  pub many : selected ≡ length once

-- A run of the closure by so many workers: some legal and complete history on its chains, which has these outcomes of its
-- tests, in suite order.
pub record IsPoolRan (l : Loaded) (b : Beginning) (workers units : ℕ) : Type 0 where
  pub set : List ℕ
  pub chains : List (List ℕ)
  pub selected : ℕ
  pub chosen : IsChosen b set chains selected
  pub events : List Event
  pub legal : Legal l.checked chains workers events
  pub complete : IsComplete chains events
  pub given : List (ℕ × Outcome)
  pub gives : AreGiven events set given
  pub sum : units ≡ units_in (outcomes given)

-- The report on such a run, and behind it its history, where a log is asked for.
pub record IsPoolReport (l : Loaded) (b : Beginning) (workers : ℕ) (log passed : Bool) (text : List ℕ) (units : ℕ) : Type 0 where
  pub ran : IsPoolRan l b workers units
  pub verdicts : list_all is_passed (outcomes ran.given) ≡ passed
  pub reports : text ≡ report_on l.names ran.selected (Some (length ran.chains)) ran.given ++ cond log (log_text ran.events) []

-- A test that passes its budget after the tests that its worker ran before it on the same heap: whole chains of the closure,
-- each once, and then the first tests of one more, whose next test it is.
pub record IsOverPool (l : Loaded) (b : Beginning) (f : OverFault) : Type 0 where
  pub set : List ℕ
  pub chains : List (List ℕ)
  pub selected : ℕ
  pub chosen : IsChosen b set chains selected
  pub list : List ℕ
  pub test : ℕ
  pub part : IsWholeThenPart chains list test
  pub none : GivesNone l.checked list test
  pub named : f ≡ over.OverBudget (test_name l.names test) (test_at l.checked test).budget list

-- a run that is refused: want of memory, or a test that passes its budget
abbrev pub PoolRefused : Loaded → Beginning → Status → Type 0
PoolRefused l b = OnlyOver (IsOverPool l b)

-- ---- by what is asked

abbrev pub IsPoolRun : Files → Ask → ℕ → Bool → Bool → List ℕ → ℕ → Type 0
IsPoolRun files a workers log passed text units = OfBegun (λ l b. IsPoolReport l b workers log passed text units) files a

abbrev pub IsPoolOver : Files → Ask → OverFault → Type 0
IsPoolOver files a f = OfBegun (λ l b. IsOverPool l b f) files a

-- ---- the suite's own record

-- each test with the outcome that it has when the whole suite is run in order on one heap
abbrev pub AreOwn : Loaded → List ℕ → List (ℕ × Outcome) → Type 0
AreOwn l [] [] = Unit {0}
AreOwn l (t ∷ ts) (x ∷ xs) = (x.0 ≡ t) × (seq l.checked t ≡ Some x.1) × AreOwn l ts xs
AreOwn l _ _ = ⊥

-- With the edges of the suite's own run, a run of a selection has for exactly the tests of its closure, each once and in suite
-- order, the outcome of the suite's order: verdict, output and units; and no test passes its budget.
pub record LawOfOwnRuns (l : Loaded) (b : Beginning) : Type 0 where
  pub outcomes : (workers units : ℕ) (r : IsPoolRan l b workers units) → AreOwn l r.set r.given
  pub none_over : (f : OverFault) → IsOverPool l b f → ⊥

abbrev pub OwnRuns : Type 0
OwnRuns = (l : Loaded) (b : Beginning) → IsOfSuite l b → is_detected l.checked ≡ true → b.said.edges ≡ edges_of l.checked → LawOfOwnRuns l b
