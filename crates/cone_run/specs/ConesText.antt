-- The report on cones (this project's).
use Rattle.std.specs.Prelude.{ℕ, List, [], ◌∷◌, ◌++◌, map, length, sum_by, codes, decimal}
use Rattle.std.specs.List.{zip}
use Rattle.jvm_model.specs.{declared.outcome.Outcome.Outcome, declared.program.Names.Names, Texts.test_lines, Texts.verdict_line}
use Rattle.test_run.specs.Running.{Posted}

abbrev pub outcomes : List Posted → List Outcome
outcomes xs = map (λ x. x.outcome) xs

-- how many tests were run
abbrev pub count_run : List Posted → ℕ
count_run xs = sum_by (λ x. length x.list) xs

-- `selected S ran C`
abbrev pub cones_line : ℕ → ℕ → List ℕ
cones_line s c = codes "selected " ++ (decimal s ++ (codes " ran " ++ (decimal c ++ (10 ∷ []))))

-- the report on selected tests, of each of whose cones this is the piece
unfoldable pub cones_text : Names → List ℕ → List Posted → List ℕ
cones_text names sel xs =
    codes "electric-cones 1" ++ (10 ∷ (cones_line (length sel) (count_run xs) ++ (test_lines names (zip sel (outcomes xs)) ++ verdict_line (outcomes xs))))
