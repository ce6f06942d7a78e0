-- The summary of a generated suite, from its parts.
use Rattle.std.proofs.Common.{◌≡◌, ◌↔◌, ℕ, ◌+◌, ◌≤◌, List, ◌∷◌, ◌++◌, length, codes, count_by, sum, Bool, refl, sym, ap, ◌∙◌, subst, arith, inl, inr, All, Some, Result, Ok, Err, IfOk, IfErr}
use Rattle.std.specs.List.{list_all, range_with_len}
use Rattle.std.proofs.lemmas.List.FromFn.{length-map-range_with_len, length-range_with_len}
use Rattle.generated_law.specs.{GeneratedLaw.LoadLaw, GeneratedRun.RunLaw, GeneratedRun.outcome_of}
use Rattle.generated_law.specs.GeneratedRecord.{ChainLaw, IsGeneratedRecord, RecordLaw}
use Rattle.generated_law.specs.GeneratedSuite.{gen_program, gen_test, generated_program, generated_suite, suite_files, suite_name}
use Rattle.jvm_model.specs.declared.program.Program.{Program}
use Rattle.jvm_model.specs.{Linked.Linked, Suite.all_tests, Suite.is_detected, Suite.seq, Texts.count_line, Texts.is_error, Texts.is_failed, Texts.is_passed}
use Rattle.jvm_model.proofs.Detection.{no_fault_where_detected}
use Rattle.order_law.specs.declared.{records.Record.Record, edges.Edge.Edge}
use Rattle.order_law.specs.{Conflicts.Member, OwnRecord.edges_of, Plan.AreListedChainsOf, Reach.IsRecordOf, Reach.units_in as units_given}
use Rattle.order_law.proofs.OwnRecord.{range_within, in_range}
use Rattle.outside.specs.Depot.{DepotView, FailedAt}
use Rattle.dep_record.specs.RecordText.{said}
use Rattle.run_core.specs.Run.{Run, history, IsLegal, IsComplete}
use Rattle.schedule_plan.specs.Plans.{HasUnits}
use Rattle.worker_pool.specs.Plans.{units_of}
use Rattle.suite_gen.specs.Generated.{group_count}
use Rattle.suite_load.specs.declared.{load_fault.LoadFault.LoadFault, loaded.Loaded.Loaded}
use Rattle.suite_load.specs.declared.load_fault.LoadFault.TheVariants as fault
use Rattle.suite_load.specs.{LoadAnswers.LoadAnswers, LoadAnswers.IsProper, Loading.Loads}
use Rattle.suite_load.proofs.LoadOnce.{loads_once}
use Rattle.electrictest.specs.declared.{recorded.Request.Request, reports.Report.Report, status.Status.Status}
use Rattle.test_run.specs.declared.tallies.Tally.{Tally}
use Rattle.electrictest.specs.declared.status.Status.TheVariants as ends
use Rattle.electrictest.specs.declared.words.Command.TheVariants as command
use Rattle.electrictest.specs.{Begun.IsOfSuite, Commands.AnswersAny, Loads.IsSuite, Loads.status_of, Records.Beginning, Records.beginning}
use Rattle.electrictest.specs.Generated.{IsSummary, IsSummed, IsWholeRequest, Sums, conflict_line, own_tests, own_units, summary_by, summary_text, whole_suite, worker_line}
use Rattle.electrictest.specs.PoolRuns.{AreOwn, IsChosen, LawOfOwnRuns, PoolRefused, outcomes}
use Rattle.electrictest.specs.{Running.RunRefused, Selections.IsTestOf, Tallies.IsTallyOf, TestNames.units_in, Words.Ask}
use Rattle.electrictest.proofs.{AllTests.closed_all, ChosenLaws.is_of_suite, PlanLaws.tests_have, PoolLaws.own_runs, PoolLaws.pool_ran}
use Rattle.electrictest.proofs.{Answering.counted_as, Answering.refused_by, Answering.reported_by, AskedFor.formed_as, AskedFor.may_pass, AskedFor.reports_as}
use Rattle.electrictest.proofs.GeneratedRuns.{all_pass, given_is, none_other, passed_many, passes, units_all}

-- ---- loading

-- a depot that never fails
pub never_failed : (old new : DepotView) (name : List ℕ) → old.faults ≡ 0 → new.faults ≡ 0 → FailedAt old new name → ⊥
never_failed old new name e f h = elim h.rose [ inl r ↦ absurd (omega (arith, e, f, r)) | inr r ↦ absurd (omega (arith, e, f, r)) ]

-- loading has one answer
module _ (loads : LoadLaw) (k : ℕ) (few : k ≤ 1024) where
  loaded_once : (answer : Result Loaded LoadFault) → Loads (suite_files k) suite_name answer → answer ≡ Ok (generated_suite k)
  loaded_once answer h =
      let once = loads_once (suite_files k) suite_name in
      once.2 answer h ∙ sym (once.2 (Ok (generated_suite k)) (loads k few))

  pub loaded_as : (l : Loaded) → Loads (suite_files k) suite_name (Ok l) → l ≡ generated_suite k
  loaded_as l h = let e = loaded_once (Ok l) h in cc

  never_refused : (f : LoadFault) → Loads (suite_files k) suite_name (Err f) → status_of f ≡ ends.NoMemory
  never_refused f h = let e = loaded_once (Err f) h in absurd (cc)

  pub unloaded_as : (Q : List ℕ → Type 0) (f : LoadFault) → LoadAnswers (suite_files k) suite_name (Err f) → IsProper Q f → ((read : List ℕ) → Q read → ⊥) → status_of f ≡ ends.NoMemory
  unloaded_as Q fault.NoMemory h p none = refl
  unloaded_as Q (fault.Depot read) h p none = absurd (none read p)
  unloaded_as Q f h p none = never_refused f h

-- ---- what is loaded

program_of : (k : ℕ) → (generated_suite k).checked ≡ generated_program k
unfolding generated_suite
program_of k = refl

tests_of : (k : ℕ) → length (generated_program k).tests ≡ k
unfolding gen_program
tests_of k = length-map-range_with_len gen_test 1 k

program_is : (k : ℕ) (l : Loaded) → l ≡ generated_suite k → l.checked ≡ generated_program k
program_is k l same = ap (λ (z : Loaded). z.checked) same ∙ program_of k

tests_are : (k : ℕ) (l : Loaded) → l ≡ generated_suite k → all_tests l.checked ≡ range_with_len 1 k
tests_are k l same = ap (range_with_len 1) (ap (λ (p : Program). length p.tests) (program_is k l same) ∙ tests_of k)

-- ---- refusals

pub run_unsummed : RunLaw → (k : ℕ) → k ≤ 1024 → (l : Loaded) (s : Status) → l ≡ generated_suite k → RunRefused l s → s ≡ ends.NoMemory
run_unsummed runs k few l ends.NoMemory same r = refl
run_unsummed runs k few l (ends.Over f) same r =
    let none = no_fault_where_detected l.checked (ap is_detected (program_is k l same) ∙ (runs k few).detected) in
    let e = sym r.passes ∙ none in
    absurd (cc)
run_unsummed runs k few l s same r = absurd r

-- ---- the suite's own record

pub units_count : (l : Loaded) (r : Record) → IsRecordOf l.checked l.prints r → length r.units ≡ length l.checked.tests
units_count l r own = ap length own.units ∙ length-map-range_with_len (λ t. units_given (seq l.checked t)) 1 (length l.checked.tests)

pub whole_has : (l : Loaded) (b : Request) → IsSuite l → IsWholeRequest l b → All (IsTestOf l.names) b.tests → HasUnits b.tests b.record.units
whole_has l b suite w named = tests_have l b.tests b.tests b.record.units suite refl named (units_count l b.record w.own)

of_suite : (l : Loaded) (b : Request) → IsSuite l → Linked l.checked → IsWholeRequest l b → All (IsTestOf l.names) b.tests → IsOfSuite l (beginning b)
of_suite l b suite linked w named = is_of_suite l b.tests b suite linked refl named (units_count l b.record w.own)

law_of : (l : Loaded) (b : Request) → IsSuite l → Linked l.checked → IsWholeRequest l b → All (IsTestOf l.names) b.tests → LawOfOwnRuns l (beginning b)
law_of l b suite linked w named = own_runs l (beginning b) (of_suite l b suite linked w named) w.detected w.own.edges

-- no test passes its budget
pub pool_unsummed : (l : Loaded) (b : Request) (s : Status) → IsSuite l → Linked l.checked → IsWholeRequest l b → All (IsTestOf l.names) b.tests → PoolRefused l (beginning b) s → s ≡ ends.NoMemory
pool_unsummed l b ends.NoMemory suite linked w named r = refl
pool_unsummed l b (ends.Over f) suite linked w named r = absurd ((law_of l b suite linked w named).none_over f r)
pool_unsummed l b s suite linked w named r = absurd r

-- ---- the summary

-- of what was counted
summary_is : (k workers chains : ℕ) (kept : Record) (t : Tally) → IsGeneratedRecord k kept → chains ≡ group_count k → sum kept.units ≡ own_units k → t.counts.passed ≡ k → t.counts.failed ≡ 0 → t.counts.error ≡ 0 →
    summary_by k workers kept chains t ≡ summary_text k workers
unfolding summary_text
summary_is k workers chains kept t r groups units passed failed error =
    λ i. codes "electric-gen 1" ++ (10 ∷ (conflict_line k (r.raw i) (r.waw i) (r.war i) (groups i) ++ worker_line workers (units i) (count_line (passed i) (failed i) (error i))))

pub summed_of : (l : Loaded) (b : Beginning) (kept : Record) (set : List ℕ) (chains : List (List ℕ)) (many : ℕ) (run : Run) (tests workers : ℕ) (y : Tally) (text : List ℕ) → IsChosen b set chains many → run.program ≡ l.checked →
    run.chains ≡ chains → run.workers ≡ workers → IsLegal run → IsComplete run → IsTallyOf l.names (history run) set y → text ≡ summary_by tests workers kept (length chains) y →
    IsSummed l b kept tests workers y.counts.all_passed text (units_of run.events)
unfolding pool_ran
summed_of l b kept set chains many run tests workers y text chosen program same by legal whole tally reads =
    subst (λ (n : ℕ). IsSummed l b kept tests n y.counts.all_passed text (units_of run.events)) by (record {
      ran = pool_ran l b set chains many run y chosen program same legal whole tally;
      tally = y;
      count = tally.tally.counts;
      verdicts = refl;
      reports = reads ∙ ap (λ (n : ℕ). summary_by tests n kept (length chains) y) (sym by);
    })

-- what all tests of the generated suite gave, by the laws of generated suites
module _ (runs : RunLaw) (records : RecordLaw) (chain : ChainLaw) (k workers : ℕ) (few : k ≤ 1024) (l : Loaded) (same : l ≡ generated_suite k) (kept : Record) (own : IsRecordOf l.checked l.prints kept)
    (suite : IsOfSuite l (whole_suite l kept)) (law : LawOfOwnRuns l (whole_suite l kept)) (passed : Bool) (text : List ℕ) (units : ℕ) (s : IsSummed l (whole_suite l kept) kept k workers passed text units) where
  set_is : s.ran.set ≡ range_with_len 1 k
  set_is = closed_all l (whole_suite l kept) suite own.edges refl s.ran.set s.ran.chains s.ran.selected s.ran.chosen ∙ tests_are k l same

  own_outcome : (t : ℕ) → Member t (range_with_len 1 k) → seq l.checked t ≡ Some (outcome_of t)
  own_outcome t m =
      let r = range_within k 1 t m in
      ap (λ (p : Program). seq p t) (program_is k l same) ∙ (runs k few).tests t r.0 (omega (arith, r.1))

  given : s.ran.given ≡ own_tests k
  given = given_is l (range_with_len 1 k) s.ran.given own_outcome (subst (λ (ts : List ℕ). AreOwn l ts s.ran.given) set_is (law.outcomes workers units s.ran))

  gave : outcomes s.ran.given ≡ outcomes (own_tests k)
  gave = ap outcomes given

  pub ran_units : units ≡ own_units k
  ran_units = s.ran.sum ∙ (ap units_in gave ∙ units_all (range_with_len 1 k))

  is_own : IsGeneratedRecord k kept
  is_own = records k l.prints kept few (subst (λ (p : Program). IsRecordOf p l.prints kept) (program_is k l same) own)

  pub kept_units : sum kept.units ≡ own_units k
  kept_units = ap sum is_own.units

  in_set : (t : ℕ) → Member t s.ran.set ↔ ((1 ≤ t) × (t ≤ k))
  in_set t = (
    λ m. let r = range_within k 1 t (subst (λ (ts : List ℕ). Member t ts) set_is m) in (r.0, omega (arith, r.1)),
    λ r. subst (λ (ts : List ℕ). Member t ts) (sym set_is) (in_range k 1 t r.0 (omega (arith, r.1))),
  )

  groups : length s.ran.chains ≡ group_count k
  groups =
      let edges : kept.edges ≡ edges_of (generated_program k) = own.edges ∙ ap edges_of (program_is k l same) in
      chain k s.ran.set s.ran.chains few in_set (subst (λ (es : List Edge). AreListedChainsOf es (λ t. Member t s.ran.set) s.ran.chains) edges s.ran.chosen.listed)

  reads : text ≡ summary_text k workers
  reads = s.reports ∙ summary_is k workers (length s.ran.chains) kept s.tally is_own groups kept_units
      (s.count.passed ∙ (ap (count_by is_passed) gave ∙ (passed_many (range_with_len 1 k) ∙ length-range_with_len 1 k)))
      (s.count.failed ∙ (ap (count_by is_failed) gave ∙ none_other is_failed (λ t. rw (passes t) refl) (range_with_len 1 k)))
      (s.count.error ∙ (ap (count_by is_error) gave ∙ none_other is_error (λ t. rw (passes t) refl) (range_with_len 1 k)))

  pub summary_of : IsSummary k workers passed text (own_units k + own_units k)
  summary_of = record {
    loaded = l;
    generated = same;
    kept = kept;
    own = own;
    ran = record {
      set = s.ran.set;
      chains = s.ran.chains;
      selected = s.ran.selected;
      chosen = s.ran.chosen;
      events = s.ran.events;
      legal = s.ran.legal;
      complete = s.ran.complete;
      given = s.ran.given;
      gives = s.ran.gives;
      sum = sym ran_units ∙ s.ran.sum;
    };
    given = given;
    passes = sym s.verdicts ∙ (s.count.all ∙ (ap (list_all is_passed) gave ∙ all_pass (range_with_len 1 k)));
    reports = reads;
    counts = refl;
  }

pub sums_of : RunLaw → RecordLaw → ChainLaw → (k workers : ℕ) → k ≤ 1024 → (l : Loaded) (b : Request) (passed : Bool) (text : List ℕ) (units begun mid now : ℕ) → l ≡ generated_suite k → IsSuite l → Linked l.checked →
    IsWholeRequest l b → All (IsTestOf l.names) b.tests → mid ≡ begun + sum b.record.units → now ≡ mid + units → IsSummed l (beginning b) b.record k workers passed text units → Sums k workers passed text begun now
sums_of runs records chain k workers few l b passed text units begun mid now same suite linked w named before after summed =
    let kept = b.record in
    let all : beginning b ≡ whole_suite l kept = ap (λ (ts : List ℕ). record { tests = ts; said = said kept }) w.tests in
    let here : IsOfSuite l (whole_suite l kept) = subst (IsOfSuite l) all (of_suite l b suite linked w named) in
    let law : LawOfOwnRuns l (whole_suite l kept) = subst (LawOfOwnRuns l) all (law_of l b suite linked w named) in
    let s : IsSummed l (whole_suite l kept) kept k workers passed text units = subst (λ (z : Beginning). IsSummed l z kept k workers passed text units) all summed in
    let first = kept_units runs records chain k workers few l same kept w.own here law passed text units s in
    let second = ran_units runs records chain k workers few l same kept w.own here law passed text units s in
    record {
      units = own_units k + own_units k;
      report = summary_of runs records chain k workers few l same kept w.own here law passed text units s;
      counts = omega (arith, before, after, first, second);
    }

-- ---- what is asked

pub summary_answers : (a : Ask) (depot : DepotView) (k workers begun now : ℕ) (result : Result Report Status) → a.command ≡ Ok (command.Gen k workers) → IfOk result (λ r. Sums k workers r.passed r.text begun now) → IfErr result (λ s. s ≡ ends.NoMemory) →
    AnswersAny a depot depot begun now result
summary_answers a depot k workers begun now (Ok r) e sums refused =
    reported_by (λ files. Unit {0}) a depot depot (λ files may. may) (omega arith) begun now r (λ files may held. counted_as begun now (λ n s. reports_as (Ok (command.Gen k workers)) files a r.passed r.text n e s) sums)
    (may_pass a.command r.passed (formed_as (command.Gen k workers) a e) sums.report.passes)
summary_answers a depot k workers begun now (Err s) e sums refused =
    subst (λ (z : Status). AnswersAny a depot depot begun now (Err z)) (sym refused) (refused_by (λ files. Unit {0}) a depot depot (λ files may. may) (omega arith) begun now ends.NoMemory (λ files may held. tt) tt)
