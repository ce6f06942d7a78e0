-- Reports on tests by their lines and how many ended with each verdict.
use Rattle.std.specs.Prelude.{◌≡◌, ℕ, ◌++◌, List, ◌∷◌, length, codes, Option}
use Rattle.jvm_model.specs.{declared.outcome.Outcome.Outcome, declared.program.Names.Names, Texts.head_line, Texts.count_line}
use Rattle.order_law.specs.Plan.{Event}
use Rattle.test_run.specs.{declared.tallies.Counts.Counts, declared.tallies.Tally.Tally, Tallies.IsTally}
use Rattle.electrictest.specs.PoolRuns.{AreGiven}

-- the report on tests by their lines and counts, of which so many were selected and executed, in so many chains
abbrev pub report_text : ℕ → ℕ → Option ℕ → List ℕ → Counts → List ℕ
report_text selected executed chains lines c =
    codes "electric-run 1" ++ (10 ∷ (head_line selected executed chains ++ (lines ++ count_line c.passed c.failed c.error)))

-- it is of the tests of a list, by a history
pub record IsTallyOf (names : Names) (es : List Event) (tests : List ℕ) (t : Tally) : Type 0 where
  pub given : List (ℕ × Outcome)
  pub gives : AreGiven es tests given
  pub tally : IsTally names given t
  pub many : length given ≡ length tests
