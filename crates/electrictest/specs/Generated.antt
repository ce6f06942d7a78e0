-- The summary of a generated suite's run on workers (this project's).
use Rattle.std.specs.Prelude.{◌≡◌, ℕ, ◌+◌, ◌-◌, ◌/◌, List, [], ◌∷◌, ◌++◌, length, map, codes, decimal, count_by, sum, Bool, true}
use Rattle.std.specs.List.{range_with_len}
use Rattle.dep_record.specs.RecordText.{said}
use Rattle.generated_law.specs.{GeneratedRecord.is_raw, GeneratedRecord.is_waw, GeneratedRecord.is_war, GeneratedRun.outcome_of, GeneratedSuite.generated_suite}
use Rattle.jvm_model.specs.{declared.outcome.Outcome.Outcome, Suite.is_detected, Suite.all_tests, Texts.count_line}
use Rattle.order_law.specs.{declared.records.Record.Record, Reach.IsRecordOf}
use Rattle.suite_gen.specs.Generated.{group_count}
use Rattle.suite_load.specs.declared.loaded.Loaded.{Loaded}
use Rattle.test_run.specs.{declared.tallies.Tally.Tally, Tallies.IsCount}
use Rattle.electrictest.specs.{declared.recorded.Request.Request, Begun.AreCounted, PoolRuns.IsPoolRan, PoolRuns.outcomes, Records.Beginning}

-- ---- the text

-- a word and a number
abbrev pub counted : List ℕ → ℕ → List ℕ
counted word n = word ++ decimal n

-- `tests K raw R waw W war A chains C`
abbrev pub conflict_line : ℕ → ℕ → ℕ → ℕ → ℕ → List ℕ
conflict_line tests raw waw war chains =
    counted (codes "tests ") tests ++ (counted (codes " raw ") raw ++ (counted (codes " waw ") waw
    ++ (counted (codes " war ") war ++ (counted (codes " chains ") chains ++ (10 ∷ [])))))

-- `workers N units U`, and the line of counts
abbrev pub worker_line : ℕ → ℕ → List ℕ → List ℕ
worker_line workers units counts = counted (codes "workers ") workers ++ (counted (codes " units ") units ++ (32 ∷ counts))

-- the tests of a generated suite, each with its outcome, and their units
abbrev pub own_tests : ℕ → List (ℕ × Outcome)
own_tests k = map (λ t. (t, outcome_of t)) (range_with_len 1 k)

abbrev pub own_units : ℕ → ℕ
own_units k = sum (map (λ t. (outcome_of t).units) (range_with_len 1 k))

-- the summary of k tests, which all pass, in a chain for each group
unfoldable pub summary_text : ℕ → ℕ → List ℕ
summary_text k workers = codes "electric-gen 1" ++ (10 ∷ (conflict_line k (k - group_count k) ((k + 1) / 4) ((k + 1) / 4) (group_count k)
    ++ worker_line workers (own_units k) (count_line k 0 0)))

-- ---- what is answered

-- all tests, and what their record says
abbrev pub whole_suite : Loaded → Record → Beginning
whole_suite l kept = record { tests = all_tests l.checked; said = said kept }

-- With the record of the suite's own run all tests ran on so many workers: each passed, with the outcome that it has when the
-- suite is run in order on one heap. The units are those of both runs.
pub record IsSummary (k workers : ℕ) (passed : Bool) (text : List ℕ) (units : ℕ) : Type 0 where
  pub loaded : Loaded
  pub generated : loaded ≡ generated_suite k
  pub kept : Record
  pub own : IsRecordOf loaded.checked loaded.prints kept
  pub ran : IsPoolRan loaded (whole_suite loaded kept) workers (own_units k)
  pub given : ran.given ≡ own_tests k
  pub passes : passed ≡ true
  pub reports : text ≡ summary_text k workers
  pub counts : units ≡ own_units k + own_units k

-- ---- of the code's functions

-- all tests, and the record of the suite's own run, which is within its limits
pub record IsWholeRequest (l : Loaded) (b : Request) : Type 0 where
  pub detected : is_detected l.checked ≡ true
  pub own : IsRecordOf l.checked l.prints b.record
  pub tests : b.tests ≡ all_tests l.checked

-- the summary by what was counted
abbrev pub summary_by : ℕ → ℕ → Record → ℕ → Tally → List ℕ
summary_by tests workers kept chains t = codes "electric-gen 1" ++ (10 ∷ (
    conflict_line tests (count_by is_raw kept.edges) (count_by is_waw kept.edges) (count_by is_war kept.edges) chains
    ++ worker_line workers (sum kept.units) (count_line t.counts.passed t.counts.failed t.counts.error)))

-- the summary of a run
pub record IsSummed (l : Loaded) (b : Beginning) (kept : Record) (tests workers : ℕ) (passed : Bool) (text : List ℕ) (units : ℕ) : Type 0 where
  pub ran : IsPoolRan l b workers units
  pub tally : Tally
  pub count : IsCount (outcomes ran.given) tally.counts
  pub verdicts : tally.counts.all_passed ≡ passed
  pub reports : text ≡ summary_by tests workers kept (length ran.chains) tally

-- there is a summary, and its units are counted
abbrev pub Sums : ℕ → ℕ → Bool → List ℕ → ℕ → ℕ → Type 0
Sums k workers passed text begun now = AreCounted (IsSummary k workers passed text) begun now
