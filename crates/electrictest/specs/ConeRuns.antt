-- What each selected test gives alone after what it needs, by a loaded suite and what it begins with (this project's).
use Rattle.std.specs.Prelude.{◌≡◌, ℕ, List, [], sum_by, Bool}
use Rattle.std.specs.List.{list_all}
use Rattle.jvm_model.specs.{State.test_at, Texts.is_passed}
use Rattle.order_law.specs.Conflicts.{Member}
use Rattle.test_run.specs.Running.{Posted}
use Rattle.cone_run.specs.{Cones.AreConesOf, Cones.IsFirstOver, Cones.cone_units, ConesText.cones_text, ConesText.outcomes}
use Rattle.outside.specs.Depot.{Files}
use Rattle.selection_close.specs.Closed.{IsAscendingOf}
use Rattle.suite_load.specs.declared.loaded.Loaded.{Loaded}
use Rattle.electrictest.specs.declared.status.{Status.Status, OverFault.OverFault}
use Rattle.electrictest.specs.declared.status.OverFault.TheVariants as over
use Rattle.electrictest.specs.{Begun.OfBegun, Begun.OnlyOver, Records.Beginning, TestNames.test_name, Words.Ask}

-- The report on the selected tests, each once and in suite order: a piece for each, of a run of exactly its cone.
pub record IsConeReport (l : Loaded) (b : Beginning) (passed : Bool) (text : List ℕ) (units : ℕ) : Type 0 where
  pub selected : List ℕ
  pub once : IsAscendingOf b.tests selected
  pub pieces : List Posted
  pub cones : AreConesOf l.checked b.said.edges selected pieces
  pub verdicts : list_all is_passed (outcomes pieces) ≡ passed
  pub reports : text ≡ cones_text l.names selected pieces
  pub sum : units ≡ sum_by (λ x. cone_units l.checked x.list) pieces

-- Some test of a set gives nothing at the end of its cone; the test is named that passes its budget in the cone of the least one.
pub record IsOverCone (l : Loaded) (b : Beginning) (S : ℕ → Type 0) (f : OverFault) : Type 0 where
  pub test : ℕ
  pub first : IsFirstOver l.checked b.said.edges S test
  pub named : f ≡ over.OverBudget (test_name l.names test) (test_at l.checked test).budget []

-- how the cones of a set are refused; or want of memory
abbrev pub ConesRefused : Loaded → Beginning → (ℕ → Type 0) → Status → Type 0
ConesRefused l b S = OnlyOver (IsOverCone l b S)

-- ---- by what is asked

abbrev pub IsConed : Files → Ask → Bool → List ℕ → ℕ → Type 0
IsConed files a passed text units = OfBegun (λ l b. IsConeReport l b passed text units) files a

-- a selected test gives nothing at the end of its cone
abbrev pub IsConedOver : Files → Ask → OverFault → Type 0
IsConedOver files a f = OfBegun (λ l b. IsOverCone l b (λ t. Member t b.tests) f) files a
