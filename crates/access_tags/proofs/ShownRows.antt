-- The rows of a test are its edges with their first locations.
use Rattle.std.proofs.Common.{◌≡◌, ℕ, zero, suc, ◌+◌, ◌-◌, ◌<◌, ◌≤◌, List, [], ◌∷◌, ◌++◌, map, flat_map, refl, sym, ◌∙◌, ap, subst, arith, inl, inr}
use Rattle.std.specs.List.{range_with_len}
use Rattle.std.proofs.lemmas.Bool.{cases_Bool}
use Rattle.std.proofs.lemmas.List.{length-map, map-append, take-map}
use Rattle.jvm_model.specs.declared.values.{Location.Location, Touch.Touch}
use Rattle.jvm_model.specs.declared.program.Program.{Program}
use Rattle.order_law.specs.declared.edges.{EdgeKind.EdgeKind, EdgeKind.TheVariants.Raw, EdgeKind.TheVariants.Waw, EdgeKind.TheVariants.War}
use Rattle.order_law.specs.Histories.{Touches}
use Rattle.order_law.specs.OwnRecord.{conflict_places_in, edge_of, edges_between_in}
use Rattle.access_tags.specs.declared.conflict.{Conflict.Conflict, LocationKey.LocationKey}
use Rattle.access_tags.specs.Tag.{found, is_conflict, conflicts_found}
use Rattle.access_tags.specs.Numbering.{Numbering, located, at_location}
use Rattle.access_tags.specs.Rows.{row_of, rows_between, rows_to, shown_by, with_places, edges_at}
use Rattle.access_tags.proofs.Conflicts.{tags_law}

module _ (n : Numbering) where
  -- the conflicts of a kind and an earlier test, at spots and at locations
  found_at : (k : EdgeKind) (u : ℕ) (hs : List (Conflict LocationKey)) → found k u (map (at_location n) hs) ≡ map (λ x. located n.names x) (found k u hs)
  found_at k u [] = refl
  found_at k u (h ∷ hs) = elim (cases_Bool (is_conflict k u h)) [
    | inl e ↦ rw e (ap (λ (ls : List Location). located n.names h.place ∷ ls) (found_at k u hs))
    | inr e ↦ rw e (found_at k u hs)
  ]

  module _ (p : Program) (by : ℕ → ℕ × ℕ) (T : Touches) (t : ℕ) where
    one_row : (k : EdgeKind) (u : ℕ) (xs : List LocationKey) (C : List Location) → conflict_places_in T k u t ≡ C → C ≡ map (λ x. located n.names x) xs →
        map (shown_by p by n.names t) (row_of k u xs) ≡ map (with_places T t) (edge_of p by k u t C)
    one_row k u [] C e f = rw f refl
    one_row k u (x ∷ xs) C e f = rw f (rw (e ∙ f) (rw (length-map xs (λ x. located n.names x)) (rw (take-map (λ x. located n.names x) 8 (x ∷ xs)) refl)))

    one_test : (u : ℕ) (hs : List (Conflict LocationKey)) → ((k : EdgeKind) → conflict_places_in T k u t ≡ map (λ x. located n.names x) (found k u hs)) →
        map (shown_by p by n.names t) (rows_between u hs) ≡ map (with_places T t) (edges_between_in p T by u t)
    unfolding edges_between_in
    one_test u hs f = let g = shown_by p by n.names t in let G = with_places T t in
        map-append g (row_of Raw u (found Raw u hs)) (row_of Waw u (found Waw u hs) ++ row_of War u (found War u hs))
        ∙ (rw (map-append g (row_of Waw u (found Waw u hs)) (row_of War u (found War u hs)))
        (rw (one_row Raw u (found Raw u hs) (conflict_places_in T Raw u t) refl (f Raw)) (rw (one_row Waw u (found Waw u hs) (conflict_places_in T Waw u t) refl (f Waw)) (rw (one_row War u (found War u hs) (conflict_places_in T War u t) refl (f War))
        (sym (map-append G (edge_of p by Raw u t (conflict_places_in T Raw u t)) (edge_of p by Waw u t (conflict_places_in T Waw u t) ++ edge_of p by War u t (conflict_places_in T War u t))
        ∙ ap (λ ys. map G (edge_of p by Raw u t (conflict_places_in T Raw u t)) ++ ys) (map-append G (edge_of p by Waw u t (conflict_places_in T Waw u t)) (edge_of p by War u t (conflict_places_in T War u t)))))))))

    all_tests_of : (m a : ℕ) (hs : List (Conflict LocationKey)) → ((u : ℕ) → a ≤ u → u < a + m → (k : EdgeKind) → conflict_places_in T k u t ≡ map (λ x. located n.names x) (found k u hs)) →
        map (shown_by p by n.names t) (flat_map (λ u. rows_between u hs) (range_with_len a m)) ≡ map (with_places T t) (flat_map (λ u. edges_between_in p T by u t) (range_with_len a m))
    all_tests_of zero a hs f = refl
    all_tests_of (suc m) a hs f = map-append (shown_by p by n.names t) (rows_between a hs) (flat_map (λ u. rows_between u hs) (range_with_len (a + 1) m))
        ∙ (rw (one_test a hs (f a (omega arith) (omega arith))) (rw (all_tests_of m (a + 1) hs (λ u lo hi. f u (omega arith) (omega arith)))
        (sym (map-append (with_places T t) (edges_between_in p T by a t) (flat_map (λ u. edges_between_in p T by u t) (range_with_len (a + 1) m))))))

  pub rows_shown : (p : Program) (by : ℕ → ℕ × ℕ) (T : Touches) (t test : ℕ) (ts : List Touch) (hs : List (Conflict LocationKey)) → test ≡ suc t → T test ≡ ts → map (at_location n) hs ≡ conflicts_found T t ts →
      map (shown_by p by n.names test) (rows_to test hs) ≡ map (with_places T test) (edges_at p T by test)
  rows_shown p by T t test ts hs e f g = all_tests_of p by T test (test - 1) 1 hs (λ u lo hi k.
      let q : T (suc t) ≡ ts = subst (λ (i : ℕ). T i ≡ ts) e f in
      let l = tags_law T k u t (omega arith) (omega arith) in
      ap (λ (i : ℕ). conflict_places_in T k u i) e ∙ (sym l ∙ (ap (λ (xs : List Touch). found k u (conflicts_found T t xs)) q ∙ (ap (λ hs. found k u hs) (sym g) ∙ found_at k u hs))))
