-- The report on dependences as JSON (this project's): one object, in one line.
use Rattle.std.specs.Prelude.{ℕ, List, [], ◌∷◌, ◌++◌, map, codes, if◌then◌else◌}
use Rattle.std.specs.Str.{is_utf8}
use Rattle.serde_json.specs.Data.{Data, Items, number, unsigned, string, array, object, member, no_members}
use Rattle.serde_json.specs.{View.items_of, Written.compact_text}
use Rattle.jvm_model.specs.declared.program.Names.{Names}
use Rattle.order_law.specs.declared.edges.Edge.{Edge}
use Rattle.order_law.specs.declared.records.{Place.Place, Shown.Shown}
use Rattle.dep_record.specs.{RecordText.kind_word, DepsText.test_name}

-- a text; names and locations are ASCII, and bytes that are no UTF-8 would be an empty one
abbrev pub text_data : List ℕ → Data
text_data bytes = string (if is_utf8 bytes then bytes else [])

-- a location, and the reads by which a test came to its object
abbrev pub place_data : Place → Data
place_data p = object (member (codes "at") (text_data p.at) (member (codes "walk") (array (items_of (map text_data p.walk))) no_members))

-- a conflict and what is shown of it
abbrev pub edge_data : Names → Edge → Shown → Data
edge_data names e s = object (member (codes "count") (number (unsigned e.count)) (member (codes "from") (text_data (test_name names e.earlier))
    (member (codes "kind") (text_data (kind_word e.kind)) (member (codes "locations") (array (items_of (map place_data s.places)))
    (member (codes "to") (text_data (test_name names e.later)) no_members)))))

abbrev pub all_edges : Names → List Edge → List Shown → List Data
all_edges names [] shown = []
all_edges names (e ∷ es) [] = []
all_edges names (e ∷ es) (s ∷ ss) = edge_data names e s ∷ all_edges names es ss

-- conflicts, and how many tests there are
abbrev pub report_data : Items → ℕ → Data
report_data edges tests = object (member (codes "edges") (array edges) (member (codes "tests") (number (unsigned tests)) no_members))

-- the report on the conflicts of so many tests, of each of which this is shown
abbrev pub deps_data : Names → ℕ → List Edge → List Shown → Data
deps_data names tests edges shown = report_data (items_of (all_edges names edges shown)) tests

unfoldable pub deps_json : Names → ℕ → List Edge → List Shown → List ℕ
deps_json names tests edges shown = compact_text (deps_data names tests edges shown) ++ 10 ∷ []
