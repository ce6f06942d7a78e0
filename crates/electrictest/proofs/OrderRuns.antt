-- The run of an order, and its report.
use Rattle.std.proofs.Common.{◌≡◌, ◌<◌, ◌≤◌, ℕ, List, Bool, length, All, sym, ap, ◌∙◌, arith}
use Rattle.std.specs.List.{list_all}
use Rattle.jvm_model.specs.{declared.outcome.Outcome.Outcome, Texts.is_passed}
use Rattle.order_law.specs.Conflicts.{Member, Lawful}
use Rattle.suite_load.specs.declared.loaded.Loaded.{Loaded}
use Rattle.test_run.specs.Running.{IsTest}
use Rattle.electrictest.specs.{declared.status.Status.Status, Begun.AreCounted, Loads.IsSuite, Orders.order_report, Orders.IsOrderReport, Records.Beginning, TestNames.units_in}
use Rattle.electrictest.specs.declared.status.Status.TheVariants as ends
use Rattle.electrictest.specs.Running.{RanInOrder, ListRefused, OrderRefused}
use Rattle.schedule_plan.proofs.Totals.{few}
use Rattle.electrictest.proofs.OrderLists.{member_all}

-- each of its tests has a name
pub are_named : (l : Loaded) (ts : List ℕ) → IsSuite l → All (IsTest l.checked) ts → (t : ℕ) → Member t ts → (0 < t) × (t ≤ length l.names.tests)
are_named l ts s h t m =
    let p = member_all (IsTest l.checked) ts h t m in
    let low = p.1 in
    let same = s.names in
    (p.0, omega arith)

module _ (l : Loaded) (b : Beginning) (lawful : Lawful b.said.edges b.tests) where
  -- there are few outcomes
  pub few_ran : (os : List Outcome) (begun now : ℕ) → IsSuite l → All (IsTest l.checked) b.tests → RanInOrder l b.tests begun now os → length os ≤ 1024
  few_ran os begun now s h r =
      let a = few b.tests (length l.names.tests) lawful.distinct (are_named l b.tests s h) in
      let each = r.each in
      let names = s.names in
      let few = s.few in
      omega arith

  -- the report on them
  pub order_reported : (os : List Outcome) (passed : Bool) (text : List ℕ) (begun now : ℕ) → RanInOrder l b.tests begun now os → text ≡ order_report l.names b.tests os → passed ≡ list_all is_passed os → AreCounted (IsOrderReport l b passed text) begun now
  order_reported os passed text begun now r e q = record {
    units = units_in os;
    report = record {
      lawful = lawful;
      given = r.given;
      ran = r.ran;
      verdicts = sym (q ∙ ap (list_all is_passed) r.gives);
      reports = e ∙ ap (order_report l.names b.tests) r.gives;
      sum = ap units_in r.gives;
    };
    counts = r.counts;
  }

  -- one of them passed its budget
  pub order_over : (s : Status) → ListRefused l b.tests s → OrderRefused l b s
  order_over ends.NoMemory r = tt
  order_over (ends.Over f) r = record { lawful = lawful; test = r.0; first = r.1; named = r.2 }
  order_over s r = absurd r
