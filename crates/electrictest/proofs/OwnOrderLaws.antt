-- What the words of an order are answered with the suite's own record.
use Rattle.std.proofs.Common.{◌≡◌, ℕ, ◌+◌, List, [], ◌∷◌, map, Bool, Option, Some, is_some, is_none, unwrap_or, Result, Ok, refl, sym, ap, ◌∙◌, subst}
use Rattle.std.proofs.lemmas.Bool.{false≢true}
use Rattle.jvm_model.specs.{declared.outcome.Outcome.Outcome, declared.program.Program.Program, Suite.Given, Suite.seq, Suite.runs, Suite.first_over}
use Rattle.jvm_model.proofs.FirstOver.{first_over_none}
use Rattle.order_law.specs.{declared.edges.Edge.Edge, Conflicts.Lawful, Histories.AreSequential}
use Rattle.order_law.proofs.{OrderFaults.law_of_faults, OwnRecord.own_law}
use Rattle.outside.specs.{Depot.Files, Sink.SinkView}
use Rattle.suite_load.specs.declared.loaded.Loaded.{Loaded}
use Rattle.electrictest.specs.declared.status.{Status.Status, InputFault.InputFault, OverFault.OverFault}
use Rattle.electrictest.specs.{Commands.Asked, Commands.Served, Commands.Whole, Loads.begun_by, Loads.fits_for, Loads.named_by}
use Rattle.electrictest.specs.Orders.{IsOrderReport, IsOrdered, IsOrderedOver, IsOverOrder, IsUnlawful, OwnOrders}
use Rattle.electrictest.specs.{OwnLists.AsksOwnOrder, OwnLists.WroteOrder, OwnLists.OwnOrderAnswer, Words.Ask, Words.Asking}
use Rattle.electrictest.specs.{OwnRecords.HoldsSaying, Records.Beginning}
use Rattle.electrictest.specs.Replies.{ReportsBy, OversBy}
use Rattle.electrictest.proofs.OwnRecordLaws.{own_start, begun_by_own, never_refused, of_start, own_ends}

-- ---- an order by the suite's own edges

pub own_orders : OwnOrders
own_orders l b passed text units suite detected same r =
    let own = own_law l.checked b.tests suite.linked detected suite.tests (subst (λ (es : List Edge). Lawful es b.tests) same r.lawful) in
    subst (AreSequential l.checked b.tests) (ap (λ (o : Option (List Given)). unwrap_or o own.0) (sym own.1 ∙ r.ran)) own.2

sequential_are : (p : Program) (ts : List ℕ) (xs : List Given) → AreSequential p ts xs → map (λ t. seq p t) ts ≡ map (λ o. Some o) (map (λ x. x.outcome) xs)
sequential_are p [] [] h = refl
sequential_are p [] (x ∷ xs) h = absurd h
sequential_are p (t ∷ ts) [] h = absurd h
sequential_are p (t ∷ ts) (x ∷ xs) h =
    ap (λ (o : Option Outcome). o ∷ map (λ u. seq p u) ts) h.0 ∙ ap (λ (os : List (Option Outcome)). Some x.outcome ∷ os) (sequential_are p ts xs h.1)

-- none of its tests passes its budget
none_passes : (p : Program) (ts : List ℕ) (xs : List Given) (t : ℕ) → runs p ts ≡ Some xs → first_over p ts ≡ Some t → ⊥
none_passes p ts xs t r h =
    false≢true (ap (λ (o : Option (List Given)). is_none o) (sym r) ∙ (first_over_none p ts ∙ ap (λ (o : Option ℕ). is_some o) h))

-- ---- the words of an order

module _ (files : Files) (a : Ask) (l : Loaded) (tests : List ℕ) (own : AsksOwnOrder HoldsSaying files a l tests) where
  abbrev start : Beginning
  start = own_start files a l own.by tests

  begun_here : begun_by files a l ≡ Some (Ok start)
  begun_here =
      begun_by_own files a l own.by tests
      (ap (λ (c : Asking). named_by c a.words l) own.asks ∙ ap (λ (r : Result (List ℕ) InputFault). Some r) own.named) (ap fits_for own.asks)

  wrote : (asked : Asked) (passed : Bool) (text : List ℕ) (units : ℕ) (old new : SinkView) → IsOrdered files a passed text units → Whole text old new → asked.now ≡ asked.begun + units → WroteOrder asked l tests passed old new
  wrote asked passed text units old new r whole counts =
      let here = of_start files a l start own.by.load begun_here (λ x b. IsOrderReport x b passed text units) r in
      let report = here.1 in
      record {
        outcomes = map (λ (x : Given). x.outcome) report.given;
        own = sequential_are l.checked tests report.given (own_orders l start passed text units here.0 own.by.detected own.by.own.edges report);
        verdicts = report.verdicts;
        whole = subst (λ (z : List ℕ). Whole z old new) report.reports whole;
        steps = counts ∙ ap (λ (n : ℕ). asked.begun + n) report.sum;
      }

  never_over : (f : OverFault) → IsOrderedOver files a f → ⊥
  never_over f r =
      let here = of_start files a l start own.by.load begun_here (λ x b. IsOverOrder x b f) r in
      let law = own_law l.checked tests here.0.linked own.by.detected here.0.tests own.lawful in
      none_passes l.checked tests law.0 here.1.test law.1 here.1.first

  never_unlawful : (f : InputFault) → IsUnlawful l start f → ⊥
  never_unlawful f u = (law_of_faults start.said.edges tests).unlawful u.found u.fault (subst (λ (es : List Edge). Lawful es tests) (sym own.by.own.edges) own.lawful)

pub own_order_answer : (asked : Asked) (s : Status) (old new : SinkView) → Served asked s old new → OwnOrderAnswer asked s old new
own_order_answer asked s old new h = λ l tests own.
    own_ends (WroteOrder asked l tests) asked old new
    (λ passed text units r. wrote asked.files asked.ask l tests own asked passed text units old new (subst (λ (c : Asking). ReportsBy c asked.files asked.ask passed text units) own.asks r))
    (λ e. let none = sym own.asks ∙ e in absurd (cc))
    (never_refused asked.files asked.ask l (start asked.files asked.ask l tests own) own.by.load (begun_here asked.files asked.ask l tests own) (λ c. never_unlawful asked.files asked.ask l tests own))
    (λ f r. never_over asked.files asked.ask l tests own f (subst (λ (c : Asking). OversBy c asked.files asked.ask f) own.asks r))
    s h
