-- What is shown of parts and rows, one after another, and that it is what the definition shows.
use Rattle.std.proofs.Common.{◌≡◌, ◌+◌, ◌-◌, ◌<◌, ◌≤◌, ℕ, zero, suc, List, [], ◌∷◌, ◌++◌, length, get_or, map, take, min, refl, sym, ◌∙◌, ap, subst, arith, inl, inr, Option, Some, None}
use Rattle.std.specs.List.{range_with_len}
use Rattle.std.proofs.lemmas.List.{append_assoc, map-append, take_all}
use Rattle.jvm_model.specs.declared.program.Program.{Program}
use Rattle.jvm_model.specs.declared.values.{Location.Location, Touch.Touch}
use Rattle.jvm_model.specs.declared.values.Location.TheVariants as place
use Rattle.jvm_model.specs.World.{place_of}
use Rattle.order_law.specs.declared.edges.{Edge.Edge, EdgeKind.EdgeKind, EdgeKind.TheVariants.Raw, EdgeKind.TheVariants.Waw, EdgeKind.TheVariants.War}
use Rattle.order_law.specs.{Conflicts.Member, Histories.Touches, Histories.IsTestNumber}
use Rattle.order_law.specs.OwnRecord.{conflict_places_in, edge_of, edges_between_in}
use Rattle.order_law.specs.Pairing.{PairedList, no_more, one_more}
use Rattle.order_law.specs.Walk.{Walk, IsPlaceIn, IsShownIn, IsWalkText, read_text}
use Rattle.order_law.proofs.{Members.member_either, Members.member_flat_map, OwnRecord.range_within}
use Rattle.access_tags.specs.declared.conflict.LocationKey.{LocationKey}
use Rattle.access_tags.specs.declared.conflict.LocationKey.TheVariants as spot
use Rattle.access_tags.specs.declared.rows.Row.{Row}
use Rattle.access_tags.specs.{Numbering.located, Ran.HaveWalks}
use Rattle.access_tags.specs.Paths.{object_of, IsWalkOf, HaveRowsWalks}
use Rattle.access_tags.specs.Places.{zipped, place_by, places_by, shown_rows}
use Rattle.access_tags.specs.Rows.{edge_by, shown_by, with_places, edges_at}
use Rattle.access_tags.proofs.Shows.{take_more, walk_shown}

-- two lists in pairs, one pair more
module _ {A B C : Type 0} (f : A → B → C) where
  pub zipped_more : (xs : List A) (ys : List B) (i : ℕ) (d : A) (e : B) → i < length xs → i < length ys → take i (zipped f xs ys) ++ f (get_or xs i d) (get_or ys i e) ∷ [] ≡ take (i + 1) (zipped f xs ys)
  zipped_more (x ∷ xs) (y ∷ ys) zero d e h k = refl
  zipped_more (x ∷ xs) (y ∷ ys) (suc i) d e h k = let n : suc (i + 1) ≡ suc i + 1 = omega arith in ap (λ (zs : List C). f x y ∷ zs) (zipped_more xs ys i d e (omega arith) (omega arith)) ∙ ap (λ (j : ℕ). take j (f x y ∷ zipped f xs ys)) n
  zipped_more _ _ i d e h k = absurd (omega arith)

  pub zipped_read : (xs : List A) (ys : List B) (i : ℕ) (d x : A) (e y : B) → i < length xs → i < length ys → x ≡ get_or xs i d → y ≡ get_or ys i e → take i (zipped f xs ys) ++ f x y ∷ [] ≡ take (i + 1) (zipped f xs ys)
  zipped_read xs ys i d x e y h k p q = subst (λ (a : A). take i (zipped f xs ys) ++ f a y ∷ [] ≡ take (i + 1) (zipped f xs ys)) (sym p) (subst (λ (b : B). take i (zipped f xs ys) ++ f (get_or xs i d) b ∷ [] ≡ take (i + 1) (zipped f xs ys)) (sym q) (zipped_more xs ys i d e h k))

  pub zipped_on : (zs : List C) (xs : List A) (ys : List B) (i : ℕ) (d x : A) (e y : B) → i < length xs → i < length ys → x ≡ get_or xs i d → y ≡ get_or ys i e → (zs ++ take i (zipped f xs ys)) ++ f x y ∷ [] ≡ zs ++ take (i + 1) (zipped f xs ys)
  zipped_on zs xs ys i d x e y h k p q = append_assoc zs (take i (zipped f xs ys)) (f x y ∷ []) ∙ ap (λ (us : List C). zs ++ us) (zipped_read xs ys i d x e y h k p q)

  zipped_few : (xs : List A) (ys : List B) → length (zipped f xs ys) ≤ min (length xs) (length ys)
  zipped_few (x ∷ xs) (y ∷ ys) = let h = zipped_few xs ys in omega arith
  zipped_few _ _ = omega arith

  pub zipped_all : (xs : List A) (ys : List B) (i : ℕ) → min (length xs) (length ys) ≤ i → take i (zipped f xs ys) ≡ zipped f xs ys
  zipped_all xs ys i h = take_all i (zipped f xs ys) (let k = zipped_few xs ys in omega arith)

-- one item more behind others
pub mapped_on : {A B : Type 0} (f : A → B) (zs : List B) (xs : List A) (i : ℕ) (d x : A) → i < length xs → x ≡ get_or xs i d → (zs ++ map f (take i xs)) ++ f x ∷ [] ≡ zs ++ map f (take (i + 1) xs)
mapped_on {A} {B} f zs xs i d x h p = append_assoc zs (map f (take i xs)) (f x ∷ []) ∙ ap (λ (us : List B). zs ++ us) (sym (map-append f (take i xs) (x ∷ [])) ∙ ap (λ (us : List A). map f us) (ap (λ (a : A). take i xs ++ a ∷ []) p ∙ take_more xs i d h))

-- members of lists
take_member : (i : ℕ) (ls : List Location) (L : Location) → Member L (take i ls) → Member L ls
take_member (suc i) (M ∷ ls) L (inl q) = inl q
take_member (suc i) (M ∷ ls) L (inr m) = inr (take_member i ls L m)
take_member _ _ L m = absurd m

mapped_member : (names : List Location) (xs : List LocationKey) (x : LocationKey) → Member x xs → Member (located names x) (map (located names) xs)
mapped_member names [] x m = absurd m
mapped_member names (y ∷ xs) x (inl q) = inl (ap (located names) q)
mapped_member names (y ∷ xs) x (inr m) = inr (mapped_member names xs x m)

module _ (p : Program) (T : Touches) (by : ℕ → ℕ × ℕ) where
  -- the tests of an edge
  edge_ends : (k : EdgeKind) (u t : ℕ) (ls : List Location) (e : Edge) → Member e (edge_of p by k u t ls) → (e.earlier ≡ u) × (e.later ≡ t)
  edge_ends k u t [] e m = absurd m
  edge_ends k u t (L ∷ ls) e (inl q) = (ap (λ (z : Edge). z.earlier) q, ap (λ (z : Edge). z.later) q)
  edge_ends k u t (L ∷ ls) e (inr m) = absurd m

  between_ends : (u t : ℕ) (e : Edge) → Member e (edges_between_in p T by u t) → (e.earlier ≡ u) × (e.later ≡ t)
  unfolding edges_between_in
  between_ends u t e m = elim (member_either (edge_of p by Raw u t (conflict_places_in T Raw u t)) _ e m) [
    | inl k ↦ edge_ends Raw u t (conflict_places_in T Raw u t) e k
    | inr k ↦ elim (member_either (edge_of p by Waw u t (conflict_places_in T Waw u t)) _ e k) [
      | inl j ↦ edge_ends Waw u t (conflict_places_in T Waw u t) e j
      | inr j ↦ edge_ends War u t (conflict_places_in T War u t) e j
    ]
  ]

  at_ends : (t : ℕ) (e : Edge) → Member e (edges_at p T by t) → (0 < e.earlier) × (e.earlier < t) × (e.later ≡ t)
  at_ends t e m = let r = member_flat_map (λ u. edges_between_in p T by u t) (range_with_len 1 (t - 1)) e m in
      let w = range_within (t - 1) 1 r.0 r.1 in let b = between_ends r.0 t e r.2 in
      let lo = w.0 in let hi = w.1 in let q = b.0 in (omega arith, omega arith, b.1)

  pub test_edges : (names : List Location) (t : ℕ) (rs : List Row) (es : List Edge) → map (shown_by p by names t) rs ≡ map (with_places T t) es → map (edge_by p by names t) rs ≡ es
  test_edges names t [] [] q = refl
  test_edges names t (r ∷ rs) (e ∷ es) q =
      let head : shown_by p by names t r ≡ with_places T t e = (cc) in
      let rest : map (shown_by p by names t) rs ≡ map (with_places T t) es = (cc) in
      let one : edge_by p by names t r ≡ e = ap (λ (z : Edge × List Location). z.0) head in rw one (ap (λ (z : List Edge). e ∷ z) (test_edges names t rs es rest))
  test_edges names t _ _ q = absurd (cc)

  module _ (names : List Location) (named : (k : ℕ) → place_of (get_or names k (place.Static 0)) ≡ None) where
    -- the object of a part is that of its location
    object_there : (x : LocationKey) → place_of (located names x) ≡ object_of x
    object_there (spot.Named k) = named k
    object_there _ = refl

    -- what is shown of parts to whose objects there are walks
    place_shown : (ts : List Touch) (x : LocationKey) (w : List LocationKey) → IsWalkOf ts x w → ((o : ℕ) → object_of x ≡ Some o → (ys : List Touch) × Walk ts o ys) → IsPlaceIn p by ts (located names x) (place_by p by names x w)
    place_shown ts x w r f = record {
      at = refl;
      walk = subst (λ (z : Option ℕ). IsWalkText p ts z (map (λ (y : LocationKey). read_text p (located [] y)) w)) (sym (object_there x)) (walk_shown p ts (object_of x) w r f);
    }

    places_shown : (ts : List Touch) (xs : List LocationKey) (ws : List (List LocationKey)) → PairedList (IsWalkOf ts) xs ws →
        ((x : LocationKey) (o : ℕ) → Member x xs → object_of x ≡ Some o → (ys : List Touch) × Walk ts o ys) → PairedList (IsPlaceIn p by ts) (map (located names) xs) (places_by p by names xs ws)
    places_shown ts [] [] no_more f = no_more
    places_shown ts (x ∷ xs) (w ∷ ws) (one_more r rs) f = one_more (place_shown ts x w r (λ o e. f x o (inl refl) e)) (places_shown ts xs ws rs (λ y o m. f y o (inr m)))
    places_shown ts _ _ r f = elim r [ ]

    -- what is shown of the rows of a test
    module _ (t : ℕ) (ht : IsTestNumber p t) (walks : HaveWalks p T) where
      row_walks : (e : Edge) (r : Row) → (0 < e.earlier) × (e.earlier < t) × (e.later ≡ t) → map (located names) r.spots ≡ take 8 (conflict_places_in T e.kind e.earlier t) →
          (x : LocationKey) (o : ℕ) → Member x r.spots → object_of x ≡ Some o → (ys : List Touch) × Walk (T t) o ys
      row_walks e r b q x o m i =
          let l = b.1 in let n = ht.1 in
          walks e.kind e.earlier t o (located names x) (b.0, omega arith) b.1 ht
          (take_member 8 (conflict_places_in T e.kind e.earlier t) (located names x) (subst (λ (ls : List Location). Member (located names x) ls) q (mapped_member names r.spots x m))) (object_there x ∙ i)

      pub rows_shown : (rs : List Row) (es : List Edge) (wss : List (List (List LocationKey))) → map (shown_by p by names t) rs ≡ map (with_places T t) es → HaveRowsWalks (T t) rs wss →
          ((e : Edge) → Member e es → (0 < e.earlier) × (e.earlier < t) × (e.later ≡ t)) → PairedList (IsShownIn p T by) es (shown_rows p by names rs wss)
      rows_shown [] [] wss q no_more b = no_more
      rows_shown (r ∷ rs) (e ∷ es) [] q w b = elim w [ ]
      rows_shown (r ∷ rs) (e ∷ es) (ws ∷ wss) q (one_more a more) b =
          let head : shown_by p by names t r ≡ with_places T t e = (cc) in
          let rest : map (shown_by p by names t) rs ≡ map (with_places T t) es = (cc) in
          let places : map (located names) r.spots ≡ take 8 (conflict_places_in T e.kind e.earlier t) = ap (λ (z : Edge × List Location). z.1) head in
          let ends = b e (inl refl) in
          let shown = places_shown (T t) r.spots ws a (row_walks e r ends places) in
          let there : PairedList (IsPlaceIn p by (T t)) (take 8 (conflict_places_in T e.kind e.earlier t)) (places_by p by names r.spots ws) = subst (λ (ls : List Location). PairedList (IsPlaceIn p by (T t)) ls (places_by p by names r.spots ws)) places shown in
          one_more (subst (λ (n : ℕ). PairedList (IsPlaceIn p by (T n)) (take 8 (conflict_places_in T e.kind e.earlier n)) (places_by p by names r.spots ws)) (sym ends.2) there) (rows_shown rs es wss rest more (λ d m. b d (inr m)))
      rows_shown _ _ wss q w b = absurd (cc)

      pub test_shown : (rs : List Row) (wss : List (List (List LocationKey))) → map (shown_by p by names t) rs ≡ map (with_places T t) (edges_at p T by t) → HaveRowsWalks (T t) rs wss → PairedList (IsShownIn p T by) (edges_at p T by t) (shown_rows p by names rs wss)
      test_shown rs wss q w = rows_shown rs (edges_at p T by t) wss q w (at_ends t)
