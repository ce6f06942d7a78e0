-- The report on dependences as text (this project's): each conflict with the first locations that it is at, and how the later test came to them.
use Rattle.std.specs.Prelude.{ℕ, ◌-◌, List, [], ◌∷◌, ◌++◌, map, codes, decimal, get_or}
use Rattle.std.specs.List.{flat_map}
use Rattle.jvm_model.specs.declared.program.Names.{Names}
use Rattle.order_law.specs.declared.edges.Edge.{Edge}
use Rattle.order_law.specs.declared.records.{Place.Place, Shown.Shown}
use Rattle.dep_record.specs.RecordText.{text_of, kind_word, end_line}

-- the name of the t-th test
abbrev pub test_name : Names → ℕ → List ℕ
test_name names t = get_or names.tests (t - 1) []

-- the reads by which a test came to an object
abbrev pub more_reads : List (List ℕ) → List ℕ
more_reads reads = flat_map (λ r. codes " > " ++ r) reads

abbrev pub walk_text : List (List ℕ) → List ℕ
walk_text [] = []
walk_text (r ∷ rs) = codes " walk " ++ (r ++ more_reads rs)

abbrev pub place_line : Place → List ℕ
place_line p = codes "at " ++ (p.at ++ walk_text p.walk)

-- `KIND NAME -> NAME locations COUNT`
abbrev pub conflict_line : Names → Edge → List ℕ
conflict_line names e = kind_word e.kind ++ (32 ∷ (test_name names e.earlier ++ (codes " -> " ++ (test_name names e.later ++ (codes " locations " ++ decimal e.count)))))

-- a conflict and what is shown of it
abbrev pub conflict_lines : Names → Edge → Shown → List (List ℕ)
conflict_lines names e s = conflict_line names e ∷ map place_line s.places

abbrev pub all_conflicts : Names → List Edge → List Shown → List ℕ
all_conflicts names [] shown = []
all_conflicts names (e ∷ es) [] = []
all_conflicts names (e ∷ es) (s ∷ ss) = text_of (conflict_lines names e s) ++ all_conflicts names es ss

-- the report on these conflicts, of each of which this is shown
unfoldable pub deps_text : Names → List Edge → List Shown → List ℕ
deps_text names edges shown = text_of (codes "electric-deps 1" ∷ []) ++ (all_conflicts names edges shown ++ text_of (end_line ∷ []))
