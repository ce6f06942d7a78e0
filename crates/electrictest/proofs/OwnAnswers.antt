-- What the words of a run are answered with the suite's own record.
use Rattle.std.proofs.Common.{◌≡◌, ℕ, ◌+◌, List, Bool, Some, Result, Ok, refl, sym, ap, ◌∙◌, subst}
use Rattle.outside.specs.{Depot.Files, Sink.SinkView}
use Rattle.suite_load.specs.declared.loaded.Loaded.{Loaded}
use Rattle.electrictest.specs.declared.status.{Status.Status, InputFault.InputFault, OverFault.OverFault}
use Rattle.electrictest.specs.{Commands.Asked, Commands.Served, Commands.Whole, Begun.IsOfSuite, Loads.begun_by, Loads.fits_for, Loads.named_by}
use Rattle.electrictest.specs.{OwnPools.AsksOwnRun, OwnPools.WroteOwn, OwnPools.OwnAnswer, Words.Ask, Words.Asking}
use Rattle.electrictest.specs.{OwnRecords.HoldsSaying, Records.Beginning}
use Rattle.electrictest.specs.PoolRuns.{IsPoolRun, IsPoolOver, IsPoolReport, IsOverPool, LawOfOwnRuns}
use Rattle.electrictest.specs.Replies.{ReportsBy, OversBy}
use Rattle.electrictest.proofs.OwnRecordLaws.{own_start, begun_by_own, never_refused, of_start, own_ends}
use Rattle.electrictest.proofs.PoolLaws.{own_runs}

module _ (files : Files) (a : Ask) (workers : ℕ) (log : Bool) (l : Loaded) (tests : List ℕ) (own : AsksOwnRun HoldsSaying files a workers log l tests) where
  abbrev start : Beginning
  start = own_start files a l own.by tests

  begun_here : begun_by files a l ≡ Some (Ok start)
  begun_here =
      begun_by_own files a l own.by tests
      (ap (λ (c : Asking). named_by c a.words l) own.asks ∙ ap (λ (r : Result (List ℕ) InputFault). Some r) own.named) (ap fits_for own.asks)

  law_here : IsOfSuite l start → LawOfOwnRuns l start
  law_here suite = own_runs l start suite own.by.detected own.by.own.edges

  wrote : (asked : Asked) (passed : Bool) (text : List ℕ) (units : ℕ) (old new : SinkView) → IsPoolRun files a workers log passed text units → Whole text old new → asked.now ≡ asked.begun + units →
      WroteOwn asked workers log l tests passed old new
  wrote asked passed text units old new r whole counts =
      let here = of_start files a l start own.by.load begun_here (λ x b. IsPoolReport x b workers log passed text units) r in
      record {
        beginning = start;
        tests_are = refl;
        edges_are = own.by.own.edges;
        text = text;
        units = units;
        report = here.1;
        own = (law_here here.0).outcomes workers units here.1.ran;
        whole = whole;
        steps = counts;
      }

  never_over : (f : OverFault) → IsPoolOver files a f → ⊥
  never_over f r = let here = of_start files a l start own.by.load begun_here (λ x b. IsOverPool x b f) r in (law_here here.0).none_over f here.1

pub own_answer : (asked : Asked) (s : Status) (old new : SinkView) → Served asked s old new → OwnAnswer asked s old new
own_answer asked s old new h = λ workers log l tests own.
    own_ends (WroteOwn asked workers log l tests) asked old new
    (λ passed text units r. wrote asked.files asked.ask workers log l tests own asked passed text units old new (subst (λ (c : Asking). ReportsBy c asked.files asked.ask passed text units) own.asks r))
    (λ e. let none = sym own.asks ∙ e in absurd (cc))
    (never_refused asked.files asked.ask l (start asked.files asked.ask workers log l tests own) own.by.load (begun_here asked.files asked.ask workers log l tests own) (λ c. let none = sym own.asks ∙ c in absurd (cc)))
    (λ f r. never_over asked.files asked.ask workers log l tests own f (subst (λ (c : Asking). OversBy c asked.files asked.ask f) own.asks r))
    s h
