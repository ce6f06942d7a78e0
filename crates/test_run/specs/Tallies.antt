-- Reports on tests with their outcomes: the lines of the tests and how many ended with each verdict.
use Rattle.std.specs.Prelude.{◌≡◌, ℕ, ◌+◌, ◌<◌, ◌++◌, ◌&&◌, cond, List, ◌∷◌, codes, decimal, count_by, map}
use Rattle.std.specs.List.{list_all}
use Rattle.jvm_model.specs.declared.{outcome.Outcome.Outcome, program.Names.Names}
use Rattle.jvm_model.specs.Texts.{is_passed, is_failed, is_error, outcome_lines, test_lines}
use Rattle.test_run.specs.declared.tallies.{Counts.Counts, Tally.Tally}

-- the counts with one outcome more
abbrev pub counted_with : Outcome → Counts → Counts
counted_with o c = record {
  passed = c.passed + cond (is_passed o) 1 0;
  failed = c.failed + cond (is_failed o) 1 0;
  error = c.error + cond (is_error o) 1 0;
  all_passed = c.all_passed && is_passed o;
}

-- and the lines of its test
abbrev pub tally_with : Names → ℕ → Outcome → Tally → Tally
tally_with names test o t = record { lines = t.lines ++ outcome_lines names test o; counts = counted_with o t.counts }

-- a title, and numbers of tests: `selected S`, and how many ran, behind their word
abbrev pub head_of : List ℕ → ℕ → List ℕ → ℕ → List ℕ
head_of title selected word ran = title ++ (10 ∷ (codes "selected " ++ (decimal selected ++ (word ++ decimal ran))))

-- there is room to count one more
abbrev pub IsFew : Counts → Type 0
IsFew c = (c.passed < 4294967295) × (c.failed < 4294967295) × (c.error < 4294967295)

-- they are of these outcomes
pub record IsCount (os : List Outcome) (c : Counts) : Type 0 where
  pub passed : c.passed ≡ count_by is_passed os
  pub failed : c.failed ≡ count_by is_failed os
  pub error : c.error ≡ count_by is_error os
  pub all : c.all_passed ≡ list_all is_passed os

-- a tally is of these tests and outcomes
pub record IsTally (names : Names) (xs : List (ℕ × Outcome)) (t : Tally) : Type 0 where
  pub lines : t.lines ≡ test_lines names xs
  pub counts : IsCount (map (λ x. x.1) xs) t.counts
