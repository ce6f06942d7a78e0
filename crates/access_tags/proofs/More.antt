-- What is kept stands for the touches after more locations came.
use Rattle.std.proofs.Common.{◌≡◌, ℕ, suc, ◌<◌, ◌≤◌, Bool, true, false, ◌||◌, cond, List, [], ◌∷◌, ◌++◌, length, get_or, refl, sym, ◌∙◌, ap, subst, arith, inl, inr}
use Rattle.std.specs.List.{list_any}
use Rattle.std.proofs.lemmas.{Bool.cases_Bool, Bool.cases_lt, List.get_or_past, List.get_or_append_left}
use Rattle.std.proofs.lemmas.List.Folds.{list_any-append}
use Rattle.jvm_model.specs.declared.values.{Location.Location, Touch.Touch}
use Rattle.jvm_model.specs.declared.values.Location.TheVariants as place
use Rattle.jvm_model.specs.World.{same}
use Rattle.order_law.specs.Histories.{Touches}
use Rattle.access_tags.specs.declared.conflict.{LocationKey.LocationKey, Touched.Touched}
use Rattle.access_tags.specs.declared.conflict.LocationKey.TheVariants as spot
use Rattle.access_tags.specs.{Tag.Tag, Tag.no_tag, Stands.StandFor, Shelf.count, Within.AreWithin}
use Rattle.access_tags.specs.Numbering.{Numbering, with_cells, with_names, located, is_name, is_named, position, IsAt, IsPlaced, ArePlaced, locations}
use Rattle.access_tags.specs.declared.cells.Cells.{Cells}

pub within_more : (xs : List Touched) (c c' d d' : Cells) → count c ≤ count c' → count d ≤ count d' → AreWithin c d xs → AreWithin c' d' xs
within_more xs c c' d d' h k f i e l = by_sort (is_name (get_or xs i e).spot) (f i e l)
  where
    by_sort : (b : Bool) → (get_or xs i e).at < cond b (count d) (count c) → (get_or xs i e).at < cond b (count d') (count c')
    by_sort true g = omega arith
    by_sort false g = omega arith

pub any_more : (L : Location) (ls ms : List Location) → list_any (same L) ls ≡ true → list_any (same L) (ls ++ ms) ≡ true
any_more L ls ms h = list_any-append (same L) ls ms ∙ rw h refl

pub position_more : (L : Location) (ls ms : List Location) → list_any (same L) ls ≡ true → position (ls ++ ms) L ≡ position ls L
position_more L [] ms h = absurd (cc)
position_more L (M ∷ ls) ms h = elim (cases_Bool (same L M)) [
  | inl e ↦ rw e refl
  | inr e ↦ rw e (ap suc (position_more L ls ms (rw e at h)))
]

pub position_past : (L : Location) (ls ms : List Location) → list_any (same L) ls ≡ false → length ls ≤ position (ls ++ ms) L
position_past L [] ms h = omega arith
position_past L (M ∷ ls) ms h = elim (cases_Bool (same L M)) [
  | inl e ↦ absurd (let z : (same L M || list_any (same L) ls) ≡ true = rw e refl in cc)
  | inr e ↦ rw e (let g = position_past L ls ms (rw e at h) in omega arith)
]

position_none : (L : Location) (ls : List Location) → list_any (same L) ls ≡ false → length ls ≤ position ls L
position_none L [] h = omega arith
position_none L (M ∷ ls) h = elim (cases_Bool (same L M)) [
  | inl e ↦ absurd (let z : (same L M || list_any (same L) ls) ≡ true = rw e refl in cc)
  | inr e ↦ rw e (let g = position_none L ls (rw e at h) in omega arith)
]

-- a tag by its position in a longer list
same_tag_more : (ls ms : List Location) (v v' : ℕ → Tag) (L : Location) → ((l : ℕ) → length ls ≤ l → v l ≡ no_tag) → ((l : ℕ) → v' l ≡ v l) → v' (position (ls ++ ms) L) ≡ v (position ls L)
same_tag_more ls ms v v' L free same_at = elim (cases_Bool (list_any (same L) ls)) [
  | inl e ↦ same_at (position (ls ++ ms) L) ∙ ap v (position_more L ls ms e)
  | inr e ↦ same_at (position (ls ++ ms) L) ∙ (free (position (ls ++ ms) L) (position_past L ls ms e) ∙ sym (free (position ls L) (position_none L ls e)))
]

module _ (n : Numbering) (T : Touches) (t : ℕ) (ts : List Touch) (c d : ℕ → Tag) (xs : List Touched) (s : StandFor n T t ts c d xs) (ls : List Location) where
  -- more cells
  placed_cells : (x : Touched) → IsPlaced n x → IsPlaced (with_cells n ls) x
  placed_cells x p = let M = located n.names x.spot in record {
    kind = p.kind;
    at = p.at ∙ by_sort (is_named M) p.there;
    there = there_sort (is_named M) p.there;
  }
    where
      by_sort : (b : Bool) → list_any (same (located n.names x.spot)) (cond b n.names n.cells) ≡ true → position (cond b n.names n.cells) (located n.names x.spot) ≡ position (cond b n.names (n.cells ++ ls)) (located n.names x.spot)
      by_sort true h = refl
      by_sort false h = sym (position_more (located n.names x.spot) n.cells ls h)

      there_sort : (b : Bool) → list_any (same (located n.names x.spot)) (cond b n.names n.cells) ≡ true → list_any (same (located n.names x.spot)) (cond b n.names (n.cells ++ ls)) ≡ true
      there_sort true h = h
      there_sort false h = any_more (located n.names x.spot) n.cells ls h

  all_placed_cells : (ys : List Touched) → ArePlaced n ys → ArePlaced (with_cells n ls) ys
  all_placed_cells [] p = tt
  all_placed_cells (y ∷ ys) p = (placed_cells y p.0, all_placed_cells ys p.1)

  pub more_cells_stand : (c' : ℕ → Tag) → ((l : ℕ) → length n.cells ≤ l → c l ≡ no_tag) → ((l : ℕ) → c' l ≡ c l) → StandFor (with_cells n ls) T t ts c' d xs
  more_cells_stand c' free g = record {
    tags = λ L. by_sort (is_named L) L ∙ s.tags L;
    touched = s.touched;
    placed = all_placed_cells xs s.placed;
  }
    where
      by_sort : (b : Bool) (L : Location) → cond b (d (position (cond b n.names (n.cells ++ ls)) L)) (c' (position (cond b n.names (n.cells ++ ls)) L)) ≡ cond b (d (position (cond b n.names n.cells) L)) (c (position (cond b n.names n.cells) L))
      by_sort true L = refl
      by_sort false L = same_tag_more n.cells ls c c' L free g

  -- more names
  name_there : (ms : List Location) (k : ℕ) → is_named (get_or ms k (place.Static 0)) ≡ true → k < length ms
  name_there ms k h = elim (cases_lt k (length ms)) [
    | inl l ↦ l
    | inr g ↦ absurd (let e : is_named (get_or ms k (place.Static 0)) ≡ false = ap (λ (M : Location). is_named M) (get_or_past ms k (place.Static 0) g) in cc)
  ]

  located_more : (y : LocationKey) → is_named (located n.names y) ≡ is_name y → located (n.names ++ ls) y ≡ located n.names y
  located_more (spot.Named k) h = get_or_append_left n.names ls (place.Static 0) k (name_there n.names k h)
  located_more _ h = refl

  placed_names : (x : Touched) → IsPlaced n x → IsPlaced (with_names n ls) x
  placed_names x p = subst (λ (M : Location). IsAt (with_names n ls) x M) (sym (located_more x.spot p.kind)) (record { kind = p.kind; at = p.at ∙ by_sort (is_named (located n.names x.spot)) p.there; there = there_sort (is_named (located n.names x.spot)) p.there })
    where
      by_sort : (b : Bool) → list_any (same (located n.names x.spot)) (cond b n.names n.cells) ≡ true → position (cond b n.names n.cells) (located n.names x.spot) ≡ position (cond b (n.names ++ ls) n.cells) (located n.names x.spot)
      by_sort true h = sym (position_more (located n.names x.spot) n.names ls h)
      by_sort false h = refl

      there_sort : (b : Bool) → list_any (same (located n.names x.spot)) (cond b n.names n.cells) ≡ true → list_any (same (located n.names x.spot)) (cond b (n.names ++ ls) n.cells) ≡ true
      there_sort true h = any_more (located n.names x.spot) n.names ls h
      there_sort false h = h

  all_placed_names : (ys : List Touched) → ArePlaced n ys → ArePlaced (with_names n ls) ys
  all_placed_names [] p = tt
  all_placed_names (y ∷ ys) p = (placed_names y p.0, all_placed_names ys p.1)

  locations_names : (ys : List Touched) → ArePlaced n ys → locations (with_names n ls) ys ≡ locations n ys
  locations_names [] p = refl
  locations_names (y ∷ ys) p = rw (located_more y.spot p.0.kind) (ap (λ (ms : List Location). located n.names y.spot ∷ ms) (locations_names ys p.1))

  pub more_names_stand : (d' : ℕ → Tag) → ((l : ℕ) → length n.names ≤ l → d l ≡ no_tag) → ((l : ℕ) → d' l ≡ d l) → StandFor (with_names n ls) T t ts c d' xs
  more_names_stand d' free g = record {
    tags = λ L. by_sort (is_named L) L ∙ s.tags L;
    touched = locations_names xs s.placed ∙ s.touched;
    placed = all_placed_names xs s.placed;
  }
    where
      by_sort : (b : Bool) (L : Location) → cond b (d' (position (cond b (n.names ++ ls) n.cells) L)) (c (position (cond b (n.names ++ ls) n.cells) L)) ≡ cond b (d (position (cond b n.names n.cells) L)) (c (position (cond b n.names n.cells) L))
      by_sort true L = same_tag_more n.names ls d d' L free g
      by_sort false L = refl
