-- What a run on the closure of a selection gives by the suite's own record.
use Rattle.std.proofs.Common.{◌≡◌, ℕ, List, [], ◌∷◌, ◌++◌, length, Bool, cond, Some, sym, ap, ◌∙◌, subst, arith, inl, inr}
use Rattle.jvm_model.specs.{declared.outcome.Outcome.Outcome, declared.program.Program.Program, Suite.seq}
use Rattle.order_law.specs.declared.edges.{Edge.Edge, EdgeKind.TheVariants.Raw}
use Rattle.order_law.specs.Conflicts.{Member, Closure, selected, source, ClosedUnderRaw}
use Rattle.order_law.specs.{Histories.RecordOf, Histories.IsTestNumber, Histories.touches_of, OwnRecord.edges_of, OwnRecord.owner}
use Rattle.order_law.specs.Plan.{Event, claim, post, Legal, PostsSequential, Posted, chain_at}
use Rattle.order_law.proofs.{OwnRecord.is_record, Plans.law_of_interleavings, Posts.legal_once, Posts.posted_where}
use Rattle.order_law.specs.Plan as law
use Rattle.run_core.specs.Run.{Gave, Run, history, IsLegal, IsComplete}
use Rattle.worker_pool.specs.Plans.{units_of}
use Rattle.test_run.specs.declared.tallies.Tally.{Tally}
use Rattle.electrictest.specs.{Begun.IsOfSuite, Logs.log_text, Tallies.IsTallyOf, Tallies.report_text, Records.Beginning}
use Rattle.electrictest.proofs.{TallyLaws.report_is, UnitLaws.units_of_posts, WholeThenPart.part_gives}
use Rattle.suite_load.specs.declared.loaded.Loaded.{Loaded}
use Rattle.electrictest.specs.PoolRuns.{AreGiven, AreOwn, IsChosen, IsPoolRan, IsPoolReport, OwnRuns}

-- ---- the closure

-- the tests of a closure are tests of the suite, as those that were selected are
closure_inside : (p : Program) (R : List Edge) (S : ℕ → Type 0) → RecordOf p R → ((t : ℕ) → S t → IsTestNumber p t) → {t : ℕ} → Closure R S t → IsTestNumber p t
closure_inside p R S own inside (selected {t} s) = inside t s
closure_inside p R S own inside (source {u} {t} c e) =
    let later : IsTestNumber p t = closure_inside p R S own inside c in
    let edge = (own Raw u t).0 e in
    (edge.0, omega (arith, edge.3.0, later.1))

-- By its own record, a suite's tests stand in the chains of a closure, which is closed under raw edges.
pub record Own (l : Loaded) (b : Beginning) (set : List ℕ) : Type 0 where
  own : RecordOf l.checked b.said.edges
  pub inside : (t : ℕ) → Member t set → IsTestNumber l.checked t
  closed : ClosedUnderRaw b.said.edges (λ t. Member t set)

pub own_of : (l : Loaded) (b : Beginning) → IsOfSuite l b → b.said.edges ≡ edges_of l.checked →
    (set : List ℕ) (chains : List (List ℕ)) (many : ℕ) → IsChosen b set chains many → Own l b set
own_of l b suite same set chains many chosen =
    let own : RecordOf l.checked b.said.edges = subst (RecordOf l.checked) (sym same) (is_record l.checked (touches_of l.checked) (owner l.checked)) in
    let exact = chosen.closure.exact in
    record {
      own = own;
      inside = λ t m. closure_inside l.checked b.said.edges (λ u. Member u b.tests) own suite.tests ((exact t).0 m);
      closed = λ u t m e. (exact u).1 (source ((exact t).0 m) e);
    }

-- ---- outcomes

gave_own : (p : Program) (es : List Event) (t : ℕ) (o : Outcome) → PostsSequential p es → Gave es t o → seq p t ≡ Some o
gave_own p [] t o h g = absurd g
gave_own p (claim w c ∷ es) t o h g = gave_own p es t o h g
gave_own p (post w l u r ∷ es) t o h g = elim g [
  | inl e ↦ subst (λ (x : ℕ × Outcome). seq p x.0 ≡ Some x.1) (λ i. (e.0 i, e.1 i)) h.0
  | inr k ↦ gave_own p es t o h.1 k
]

all_own : (l : Loaded) (es : List Event) (ts : List ℕ) (xs : List (ℕ × Outcome)) → PostsSequential l.checked es → AreGiven es ts xs → AreOwn l ts xs
all_own l es [] [] h g = tt
all_own l es [] (x ∷ xs) h g = absurd g
all_own l es (t ∷ ts) [] h g = absurd g
all_own l es (t ∷ ts) (x ∷ xs) h g = (g.0, gave_own l.checked es t x.1 h g.1, all_own l es ts xs h g.2)

pub own_runs : OwnRuns
own_runs l b suite detected same = record {
  outcomes = λ workers units r.
      let o = own_of l b suite same r.set r.chains r.selected r.chosen in
      let faithful = law_of_interleavings l.checked b.said.edges r.set r.chains workers r.events suite.linked detected o.own o.inside o.closed r.chosen.listed.chains r.legal in
      all_own l r.events r.set r.given faithful.outcomes r.gives;
  none_over = λ f r.
      let o = own_of l b suite same r.set r.chains r.selected r.chosen in
      part_gives l.checked b.said.edges o.own (λ t. Member t r.set) r.chains o.closed r.chosen.listed.chains suite.linked detected o.inside r.list r.test r.part r.none;
}

-- ---- reports

-- a complete run posted each test of the closure
pub all_posted : (b : Beginning) (set : List ℕ) (chains : List (List ℕ)) (many : ℕ) (run : Run) → IsChosen b set chains many → run.chains ≡ chains → IsComplete run →
    (t : ℕ) → Member t set → Posted (history run) t
all_posted b set chains many run chosen same whole t m =
    let c = chosen.listed.chains.covered t m in
    whole c.0 t (subst (λ (C : List (List ℕ)). Member t (chain_at C c.0)) (sym same) c.1)

-- what a legal and complete run holds
unfoldable pub pool_ran : (l : Loaded) (b : Beginning) (set : List ℕ) (chains : List (List ℕ)) (many : ℕ) (run : Run) (y : Tally) → IsChosen b set chains many →
    run.program ≡ l.checked → run.chains ≡ chains → IsLegal run → IsComplete run → IsTallyOf l.names (history run) set y → IsPoolRan l b run.workers (units_of run.events)
pool_ran l b set chains many run y chosen program same legal whole tally =
    let es : List Event = history run in
    let own : Legal l.checked chains run.workers es = subst (λ (x : Program × List (List ℕ)). Legal x.0 x.1 run.workers es) (λ i. (program i, same i)) legal in
    let cs = chosen.listed.chains in
    record {
      set = set;
      chains = chains;
      selected = many;
      chosen = chosen;
      events = es;
      legal = own;
      complete = subst (λ (C : List (List ℕ)). law.IsComplete C es) same whole;
      given = tally.given;
      gives = tally.gives;
      sum = units_of_posts chains run.events set tally.given chosen.closure.ascending (legal_once l.checked chains run.workers es own)
          (λ t q. let c = posted_where l.checked chains run.workers es q.0 t own q.1 in cs.within c.0 t c.2) tally.gives;
    }

-- and the report on it
pub pool_reported : (l : Loaded) (b : Beginning) (set : List ℕ) (chains : List (List ℕ)) (many : ℕ) (run : Run) (log : Bool) (y : Tally) (text : List ℕ) → IsChosen b set chains many →
    run.program ≡ l.checked → run.chains ≡ chains → IsLegal run → IsComplete run → IsTallyOf l.names (history run) set y →
    text ≡ report_text many (length set) (Some (length chains)) y.lines y.counts ++ cond log (log_text (history run)) [] →
    IsPoolReport l b run.workers log y.counts.all_passed text (units_of run.events)
unfolding pool_ran
pool_reported l b set chains many run log y text chosen program same legal whole tally reads = record {
  ran = pool_ran l b set chains many run y chosen program same legal whole tally;
  verdicts = sym tally.tally.counts.all;
  reports = reads ∙ ap (λ (r : List ℕ). r ++ cond log (log_text (history run)) []) (report_is l.names tally.given many (length set) (Some (length chains)) y tally.tally tally.many);
}
