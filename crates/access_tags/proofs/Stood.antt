-- What is kept stands for the touches, after one more of them and after the end of a test.
use Rattle.std.proofs.Common.{◌≡◌, ℕ, suc, Bool, true, false, not, ◌||◌, ◌&&◌, cond, List, [], ◌∷◌, ◌++◌, map, flat_map, refl, sym, ◌∙◌, ap, subst, nat_eq, inl, inr}
use Rattle.std.specs.List.{list_any}
use Rattle.std.proofs.lemmas.{Bool.cases_Bool, Bool.eqb-true, List.append-nil, List.map-append}
use Rattle.jvm_model.specs.declared.values.{Location.Location, Touch.Touch}
use Rattle.jvm_model.specs.World.{same}
use Rattle.jvm_model.proofs.Locations.{same_true}
use Rattle.order_law.specs.declared.edges.{EdgeKind.EdgeKind, EdgeKind.TheVariants.Raw, EdgeKind.TheVariants.Waw, EdgeKind.TheVariants.War}
use Rattle.order_law.specs.{Exposed.written, Exposed.exposed, Histories.Touches}
use Rattle.access_tags.specs.declared.conflict.{Conflict.Conflict, LocationKey.LocationKey, Touched.Touched}
use Rattle.access_tags.specs.declared.mark.Mark.{Mark}
use Rattle.access_tags.specs.Tag.{Tag, tag, writer, readers, mark, no_mark, marked, noted, covers, ended, is_new, places, conflict, with_writer, conflicts_at, conflicts_found}
use Rattle.access_tags.specs.{Cells.Apart, Stands.StandFor}
use Rattle.access_tags.specs.Numbering.{Numbering, located, is_name, view, IsPlaced, ArePlaced, locations, is_at, tag_at, at_location}
use Rattle.access_tags.proofs.Marks.{mark_more, places_more, any_touched}
use Rattle.access_tags.proofs.{Places.any_first, Places.first_apart, Settle.tag_with}
use Rattle.access_tags.proofs.Numbered.{changed, tag_there, any_location}

-- a location that isn't touched
untouched : (ts : List Touch) (L : Location) → list_any (same L) (places ts) ≡ false → mark ts L ≡ no_mark
untouched ts L e = base (exposed ts L) (written ts L) (sym (any_touched ts L) ∙ (sym (any_first (map (λ (x : Touch). x.location) ts) L) ∙ e))
  where
    base : (a b : Bool) → (a || b) ≡ false → record { exposed = a; written = b } ≡ no_mark
    base false false q = refl
    base _ _ q = absurd (cc)

ended_untouched : (t : ℕ) (g : Tag) → g.mark ≡ no_mark → ended t g ≡ g
ended_untouched t g e = let w : g.mark.written ≡ false = ap (λ (m : Mark). m.written) e in let x : g.mark.exposed ≡ false = ap (λ (m : Mark). m.exposed) e in rw w (rw x refl)

tag_ended : (T : Touches) (t : ℕ) (ts : List Touch) (L : Location) → T (suc t) ≡ ts → ended (suc t) (tag T t ts L) ≡ tag T (suc t) [] L
tag_ended T t ts L e = rw e refl

-- a touch that leaves a mark as it is leaves the tag, and isn't the first
covered_tag : (write : Bool) (g : Tag) → covers write g.mark ≡ true → noted write g ≡ g
covered_tag write g k = ap (λ (m : Mark). tag_with g.writer g.readers m) (base write g.mark.exposed g.mark.written k)
  where
    base : (b e w : Bool) → (w || (e && not b)) ≡ true → marked b (record { exposed = e; written = w }) ≡ record { exposed = e; written = w }
    base true true false q = absurd (cc)
    base true false false q = absurd (cc)
    base false false false q = absurd (cc)
    base _ _ _ q = refl

pub covered_new : (write : Bool) (m : Mark) → covers write m ≡ true → is_new m ≡ false
covered_new write m = base m.exposed m.written
  where
    base : (e w : Bool) → (w || (e && not write)) ≡ true → (not e && not w) ≡ false
    base false false q = absurd (cc)
    base _ _ q = refl

pub covered_there : (write : Bool) (c : ℕ → Tag) (i l : ℕ) → covers write (c i).mark ≡ true → c l ≡ cond (nat_eq l i) (noted write (c i)) (c l)
covered_there write c i l k = elim (cases_Bool (nat_eq l i)) [
  | inl e ↦ rw e (ap c (eqb-true l i e) ∙ sym (covered_tag write (c i) k))
  | inr e ↦ rw e refl
]

abbrev AreNoted : Bool → Bool → (ℕ → Tag) → ℕ → Type 0
AreNoted b write c i = (l : ℕ) → c l ≡ cond (b && nat_eq l i) (noted write (c i)) (c l)

covered_both : (b write : Bool) (c d : ℕ → Tag) (i : ℕ) → covers write (cond b (d i) (c i)).mark ≡ true → AreNoted (not b) write c i × AreNoted b write d i
covered_both true write c d i k = (λ l. refl, λ l. covered_there write d i l k)
covered_both false write c d i k = (λ l. covered_there write c i l k, λ l. refl)

module _ (n : Numbering) (T : Touches) (t : ℕ) (ts : List Touch) (c d : ℕ → Tag) (xs : List Touched) (s : StandFor n T t ts c d xs) where
  -- one more touch
  placed_more : (b : Bool) (ys : List Touched) (y : Touched) → ArePlaced n ys → IsPlaced n y → ArePlaced n (ys ++ cond b (y ∷ []) [])
  placed_more true [] y a p = (p, tt)
  placed_more false [] y a p = tt
  placed_more b (x ∷ ys) y a p = (a.0, placed_more b ys y a.1 p)

  locations_more : (b : Bool) (y : Touched) → locations n (xs ++ cond b (y ∷ []) []) ≡ locations n xs ++ cond b (located n.names y.spot ∷ []) []
  locations_more true y = map-append (λ (x : Touched). located n.names x.spot) xs (y ∷ [])
  locations_more false y = map-append (λ (x : Touched). located n.names x.spot) xs []

  pub noted_stands : (y : Touched) (x : Touch) (write : Bool) (c' d' : ℕ → Tag) (b : Bool) → x.write ≡ write → IsPlaced n y → x.location ≡ located n.names y.spot → b ≡ is_new (tag_at c d y).mark →
      ((l : ℕ) → c' l ≡ cond (not (is_name y.spot) && nat_eq l y.at) (noted write (c y.at)) (c l)) → ((l : ℕ) → d' l ≡ cond (is_name y.spot && nat_eq l y.at) (noted write (d y.at)) (d l)) →
      StandFor n T t (ts ++ x ∷ []) c' d' (xs ++ cond b (y ∷ []) [])
  noted_stands y x write c' d' b w p e k g h = let M = located n.names y.spot in
      let m : b ≡ is_new (mark ts M) = k ∙ ap (λ (z : Tag). is_new z.mark) (tag_there n c d y p ∙ s.tags M) in
      record {
        tags = λ L. changed n y (λ (z : Tag). noted x.write z) c d c' d' p (rw w g) (rw w h) L ∙ (rw (s.tags L) (rw (s.tags M) (elim (cases_Bool (same L M)) [
          | inl f ↦ rw f (ap (λ (N : Location). noted x.write (tag T t ts N)) (sym (same_true L M f)) ∙ ap (λ (z : Mark). tag_with (writer T t L) (readers T t L) z) (sym (mark_more ts x L ∙ rw e (rw f refl))))
          | inr f ↦ rw f (ap (λ (z : Mark). tag_with (writer T t L) (readers T t L) z) (sym (mark_more ts x L ∙ rw e (rw f refl))))
        ])));
        touched = locations_more b y ∙ (rw m (rw s.touched (rw (← e) (sym (places_more ts x)))));
        placed = placed_more b xs y s.placed p;
      }

  pub covered_stands : (y : Touched) (x : Touch) (write : Bool) → x.write ≡ write → IsPlaced n y → x.location ≡ located n.names y.spot → covers write (tag_at c d y).mark ≡ true → StandFor n T t (ts ++ x ∷ []) c d xs
  covered_stands y x write w p e k = let a = covered_both (is_name y.spot) write c d y.at k in
      subst (λ (ys : List Touched). StandFor n T t (ts ++ x ∷ []) c d ys) (append-nil xs) (noted_stands y x write c d false w p e (sym (covered_new write (tag_at c d y).mark k)) a.0 a.1)

  -- what such a touch is of was touched
  pub covered_touched : (y : Touched) (write : Bool) → IsPlaced n y → covers write (tag_at c d y).mark ≡ true → list_any (same (located n.names y.spot)) (map (λ (x : Touch). x.location) ts) ≡ true
  covered_touched y write p k = let M = located n.names y.spot in
      any_touched ts M ∙ either (exposed ts M) (written ts M) (subst (λ (z : Mark). covers write z ≡ true) (ap (λ (z : Tag). z.mark) (tag_there n c d y p ∙ s.tags M)) k)
    where
      either : (e w : Bool) → (w || (e && not write)) ≡ true → (e || w) ≡ true
      either true w q = refl
      either false true q = refl
      either false false q = q

  -- the end of the test
  pub apart : Apart same (locations n xs)
  apart = subst (λ (ls : List Location). Apart same ls) (sym s.touched) (first_apart (map (λ (x : Touch). x.location) ts))

  pub ended_stands : (test : ℕ) (c' d' : ℕ → Tag) → test ≡ suc t → T test ≡ ts →
      ((L : Location) → view n c' d' L ≡ cond (list_any (is_at n L) xs) (ended test (view n c d L)) (view n c d L)) → StandFor n T test [] c' d' []
  ended_stands test c' d' e f g = record {
    tags = λ L.
        let q : T (suc t) ≡ ts = subst (λ (u : ℕ). T u ≡ ts) e f in
        let a : view n c' d' L ≡ cond (list_any (same L) (places ts)) (ended (suc t) (tag T t ts L)) (tag T t ts L) =
        g L ∙ (ap (λ (b : Bool). cond b (ended test (view n c d L)) (view n c d L)) (any_location n L xs ∙ ap (λ (ls : List Location). list_any (same L) ls) s.touched)
        ∙ (ap (λ (z : Tag). cond (list_any (same L) (places ts)) (ended test z) z) (s.tags L) ∙ ap (λ (u : ℕ). cond (list_any (same L) (places ts)) (ended u (tag T t ts L)) (tag T t ts L)) e)) in
        subst (λ (u : ℕ). view n c' d' L ≡ tag T u [] L) (sym e) (a ∙ elim (cases_Bool (list_any (same L) (places ts))) [
          | inl b ↦ rw b (tag_ended T t ts L q)
          | inr b ↦ rw b (sym (ended_untouched (suc t) (tag T t ts L) (untouched ts L b)) ∙ tag_ended T t ts L q)
        ]);
    touched = refl;
    placed = tt;
  }

  -- the conflicts of the test
  one_writer : (k : EdgeKind) (y : LocationKey) (u : ℕ) → map (at_location n) (with_writer k y u) ≡ with_writer k (located n.names y) u
  one_writer k y u = elim (cases_Bool (nat_eq u 0)) [ inl e ↦ rw e refl | inr e ↦ rw e refl ]

  all_readers : (y : LocationKey) (us : List ℕ) → map (at_location n) (map (conflict War y) us) ≡ map (conflict War (located n.names y)) us
  all_readers y [] = refl
  all_readers y (u ∷ us) = ap (λ (hs : List (Conflict Location)). conflict War (located n.names y) u ∷ hs) (all_readers y us)

  by_exposed : (b : Bool) (y : LocationKey) (u : ℕ) → map (at_location n) (cond b (with_writer Raw y u) []) ≡ cond b (with_writer Raw (located n.names y) u) []
  by_exposed true y u = one_writer Raw y u
  by_exposed false y u = refl

  by_written : (b : Bool) (y : LocationKey) (u : ℕ) (us : List ℕ) → map (at_location n) (cond b (with_writer Waw y u ++ map (conflict War y) us) []) ≡ cond b (with_writer Waw (located n.names y) u ++ map (conflict War (located n.names y)) us) []
  by_written true y u us = map-append (at_location n) (with_writer Waw y u) (map (conflict War y) us) ∙ (rw (one_writer Waw y u) (rw (all_readers y us) refl))
  by_written false y u us = refl

  conflicts_there : (y : LocationKey) (g : Tag) → map (at_location n) (conflicts_at y g) ≡ conflicts_at (located n.names y) g
  conflicts_there y g = map-append (at_location n) (cond g.mark.exposed (with_writer Raw y g.writer) []) (cond g.mark.written (with_writer Waw y g.writer ++ map (conflict War y) g.readers) [])
      ∙ (rw (by_exposed g.mark.exposed y g.writer) (rw (by_written g.mark.written y g.writer g.readers) refl))

  all_conflicts : (ys : List Touched) → ArePlaced n ys → map (at_location n) (flat_map (λ (y : Touched). conflicts_at y.spot (tag_at c d y)) ys) ≡ flat_map (λ (L : Location). conflicts_at L (tag T t ts L)) (locations n ys)
  all_conflicts [] p = refl
  all_conflicts (y ∷ ys) p = map-append (at_location n) (conflicts_at y.spot (tag_at c d y)) (flat_map (λ (y : Touched). conflicts_at y.spot (tag_at c d y)) ys)
      ∙ (rw (conflicts_there y.spot (tag_at c d y)) (rw (tag_there n c d y p.0 ∙ s.tags (located n.names y.spot))
      (ap (λ (hs : List (Conflict Location)). conflicts_at (located n.names y.spot) (tag T t ts (located n.names y.spot)) ++ hs) (all_conflicts ys p.1))))

  pub conflicts_stand : map (at_location n) (flat_map (λ (y : Touched). conflicts_at y.spot (tag_at c d y)) xs) ≡ conflicts_found T t ts
  conflicts_stand = all_conflicts xs s.placed ∙ ap (λ (ls : List Location). flat_map (λ (L : Location). conflicts_at L (tag T t ts L)) ls) s.touched
