-- What an order gives, by a loaded suite and what it begins with (this project's).
use Rattle.std.specs.Prelude.{◌≡◌, ℕ, nat_eq, List, [], ◌∷◌, length, map, filter, flat_map, true, Bool, Some, None}
use Rattle.std.specs.List.{list_all, range_with_len}
use Rattle.jvm_model.specs.{declared.outcome.Outcome.Outcome, declared.program.Names.Names, State.test_at, Texts.is_passed, Texts.report_on}
use Rattle.jvm_model.specs.Suite.{Given, runs, first_over, is_detected}
use Rattle.order_law.specs.{Conflicts.Lawful, Histories.AreSequential, OwnRecord.edges_of}
use Rattle.order_law.specs.OrderFault.{OrderFault, IsOrderFault, twice, missing_writer, inverted}
use Rattle.outside.specs.Depot.{Files}
use Rattle.suite_load.specs.declared.loaded.Loaded.{Loaded}
use Rattle.electrictest.specs.declared.status.{InputFault.InputFault, OverFault.OverFault}
use Rattle.electrictest.specs.declared.status.InputFault.TheVariants as input
use Rattle.electrictest.specs.declared.status.OverFault.TheVariants as over
use Rattle.electrictest.specs.{Begun.IsOfSuite, Begun.OfBegun, Words.Ask, Records.Beginning, TestNames.test_name, TestNames.units_in}

-- the tests of a list with their outcomes
abbrev pub paired : List ℕ → List Outcome → List (ℕ × Outcome)
paired [] os = []
paired (t ∷ ts) [] = []
paired (t ∷ ts) (o ∷ os) = (t, o) ∷ paired ts os

-- whether an outcome is of this test
abbrev pub is_of : ℕ → ℕ × Outcome → Bool
is_of t x = nat_eq x.0 t

-- of these, the ones of the first n tests, in suite order
abbrev pub by_test : ℕ → List (ℕ × Outcome) → List (ℕ × Outcome)
by_test n xs = flat_map (λ t. filter (is_of t) xs) (range_with_len 1 n)

-- the report on a list of tests, which stand in suite order
abbrev pub order_report : Names → List ℕ → List Outcome → List ℕ
order_report names list os = report_on names (length list) None (by_test (length names.tests) (paired list os))

-- how a fault of an order is answered
abbrev pub order_input : Names → OrderFault → InputFault
order_input names (twice t) = input.Twice (test_name names t)
order_input names (missing_writer t u) = input.MissingWriter (test_name names t) (test_name names u)
order_input names (inverted a b) = input.Inverted (test_name names a) (test_name names b)

-- the order isn't lawful by the record
pub record IsUnlawful (l : Loaded) (b : Beginning) (f : InputFault) : Type 0 where
  pub found : OrderFault
  pub fault : IsOrderFault b.said.edges b.tests found
  pub named : f ≡ order_input l.names found

-- a lawful order, of which a test passes its budget
pub record IsOverOrder (l : Loaded) (b : Beginning) (f : OverFault) : Type 0 where
  pub lawful : Lawful b.said.edges b.tests
  pub test : ℕ
  pub first : first_over l.checked b.tests ≡ Some test
  pub named : f ≡ over.OverBudget (test_name l.names test) (test_at l.checked test).budget []

-- a lawful order: its tests ran in its order on one heap
pub record IsOrderReport (l : Loaded) (b : Beginning) (passed : Bool) (text : List ℕ) (units : ℕ) : Type 0 where
  pub lawful : Lawful b.said.edges b.tests
  pub given : List Given
  pub ran : runs l.checked b.tests ≡ Some given
  pub verdicts : list_all is_passed (map (λ x. x.outcome) given) ≡ passed
  pub reports : text ≡ order_report l.names b.tests (map (λ x. x.outcome) given)
  pub sum : units ≡ units_in (map (λ x. x.outcome) given)

-- With the edges that the suite's own run gives, each test of a lawful order has the outcome that it has in the suite's order.
abbrev pub OwnOrders : Type 0
OwnOrders = (l : Loaded) (b : Beginning) (passed : Bool) (text : List ℕ) (units : ℕ) → IsOfSuite l b → is_detected l.checked ≡ true → b.said.edges ≡ edges_of l.checked →
    (r : IsOrderReport l b passed text units) → AreSequential l.checked b.tests r.given

-- ---- by what is asked

-- the report on an order
abbrev pub IsOrdered : Files → Ask → Bool → List ℕ → ℕ → Type 0
IsOrdered files a passed text units = OfBegun (λ l b. IsOrderReport l b passed text units) files a

-- a test of an order that passes its budget
abbrev pub IsOrderedOver : Files → Ask → OverFault → Type 0
IsOrderedOver files a f = OfBegun (λ l b. IsOverOrder l b f) files a
