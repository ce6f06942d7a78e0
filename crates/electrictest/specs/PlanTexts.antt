-- The text of a plan (this project's).
use Rattle.std.specs.Prelude.{ℕ, ◌+◌, List, [], ◌∷◌, ◌++◌, map, codes, decimal}
use Rattle.dep_record.specs.RecordText.{numbers_text}
use Rattle.schedule_plan.specs.{declared.shares.Share.Share, Plans.units_of}

-- `units U` at the end of a line
abbrev pub units_end : ℕ → List ℕ
units_end units = codes " units " ++ (decimal units ++ (10 ∷ []))

-- `chain C tests I,I,.. units U`
abbrev pub chain_line : List ℕ → ℕ → List ℕ → List ℕ
chain_line units c tests = codes "chain " ++ (decimal c ++ (codes " tests " ++ (numbers_text tests ++ units_end (units_of units tests))))

-- the lines of chains, from number c on
abbrev pub chain_lines : List ℕ → ℕ → List (List ℕ) → List ℕ
chain_lines units c [] = []
chain_lines units c (l ∷ ls) = chain_line units c l ++ chain_lines units (c + 1) ls

-- chains by their places, which are numbered from 1; `-` for none
abbrev pub share_text : List ℕ → List ℕ
share_text [] = codes "-"
share_text (c ∷ cs) = numbers_text (map (λ i. i + 1) (c ∷ cs))

-- `worker W chains C,C,.. units U`
abbrev pub worker_line : ℕ → Share → List ℕ
worker_line w s = codes "worker " ++ (decimal w ++ (codes " chains " ++ (share_text s.chains ++ units_end s.load)))

-- the lines of workers, from number w on
abbrev pub worker_lines : ℕ → List Share → List ℕ
worker_lines w [] = []
worker_lines w (s ∷ ss) = worker_line w s ++ worker_lines (w + 1) ss

-- the plan of chains for workers, by the units of the tests
unfoldable pub plan_text : List (List ℕ) → List ℕ → List Share → List ℕ
plan_text chains units shares =
    codes "electric-plan 1" ++ (10 ∷ (chain_lines units 1 chains ++ (worker_lines 1 shares ++ (codes "end" ++ (10 ∷ [])))))
