-- No number of the report is a float, and its conflicts are made one by one.
use Rattle.std.proofs.Common.{◌≡◌, ℕ, ◌+◌, ◌<◌, false, List, [], ◌∷◌, ◌++◌, length, map, drop, get_or, refl, ap, ◌∙◌}
use Rattle.std.proofs.lemmas.{Bool.or_from, List.at_drop_more, Str.IsUtf8-from_is_utf8, Str.is_utf8-from_IsUtf8}
use Rattle.serde_json.specs.{Data.Data, View.items_of}
use Rattle.serde_json.specs.Written.{has_float, items_have_float, compact_text}
use Rattle.jvm_model.specs.declared.program.Names.{Names}
use Rattle.order_law.specs.declared.edges.Edge.{Edge}
use Rattle.order_law.specs.declared.records.{Place.Place, Shown.Shown}
use Rattle.dep_record.specs.DepsJson.{text_data, place_data, edge_data, all_edges, report_data, deps_data, deps_json}

pub ruleset utf8_tests = (IsUtf8-from_is_utf8, is_utf8-from_IsUtf8)

texts_exact : (ts : List (List ℕ)) → items_have_float (items_of (map text_data ts)) ≡ false
texts_exact [] = refl
texts_exact (t ∷ ts) = texts_exact ts

places_exact : (ps : List Place) → items_have_float (items_of (map place_data ps)) ≡ false
places_exact [] = refl
places_exact (p ∷ ps) = or_from _ _ (or_from _ _ (texts_exact p.walk) refl) (places_exact ps)

edges_exact : (names : Names) (es : List Edge) (ss : List Shown) → items_have_float (items_of (all_edges names es ss)) ≡ false
edges_exact names [] ss = refl
edges_exact names (e ∷ es) [] = refl
edges_exact names (e ∷ es) (s ∷ ss) = or_from _ _ (or_from _ _ (places_exact s.places) refl) (edges_exact names es ss)

no_floats : (names : Names) (tests : ℕ) (es : List Edge) (ss : List Shown) → has_float (deps_data names tests es ss) ≡ false
no_floats names tests es ss = or_from _ _ (edges_exact names es ss) refl

-- the text of the report
pub json_written : (names : Names) (tests n : ℕ) (es : List Edge) (ss : List Shown) (items : List Data) (d : Data) (text out : List ℕ) → items ≡ all_edges names es ss → d ≡ report_data (items_of items) n → n ≡ tests
    → (has_float d ≡ false → text ≡ compact_text d) → out ≡ text ++ 10 ∷ [] → out ≡ deps_json names tests es ss
unfolding deps_json
json_written names tests n es ss items d text out a b e written o =
    let same : d ≡ deps_data names tests es ss = b ∙ ap (λ (xs : List Data). report_data (items_of xs) n) a ∙ ap (λ k. report_data (items_of (all_edges names es ss)) k) e in
    let whole : text ≡ compact_text (deps_data names tests es ss) = written (ap has_float same ∙ no_floats names tests es ss) ∙ ap compact_text same in
    o ∙ ap (λ t. t ++ 10 ∷ []) whole

pub edges_more : (names : Names) (es : List Edge) (ss : List Shown) (i : ℕ) (e : Edge) (s : Shown) → i < length es → i < length ss
    → all_edges names (drop i es) (drop i ss) ≡ edge_data names (get_or es i e) (get_or ss i s) ∷ all_edges names (drop (i + 1) es) (drop (i + 1) ss)
edges_more names es ss i e s few fewer =
    at_drop_more (λ xs. all_edges names xs (drop i ss)) es i e few ∙ at_drop_more (λ ys. all_edges names (get_or es i e ∷ drop (i + 1) es) ys) ss i s fewer
