-- The tags of locations by those of their numbers.
use Rattle.std.proofs.Common.{◌≡◌, ℕ, suc, Bool, true, false, not, ◌||◌, ◌&&◌, cond, List, [], ◌∷◌, refl, sym, ◌∙◌, ap, subst, arith, nat_eq, inl, inr}
use Rattle.std.specs.List.{list_any}
use Rattle.std.proofs.lemmas.Bool.{cases_Bool, eq-eqb, ne_eqb}
use Rattle.std.proofs.Math.Dec.{eqb-suc-suc}
use Rattle.jvm_model.specs.declared.values.Location.{Location}
use Rattle.jvm_model.specs.World.{same}
use Rattle.jvm_model.proofs.Locations.{same_true}
use Rattle.access_tags.specs.declared.conflict.Touched.{Touched}
use Rattle.access_tags.specs.Tag.{Tag}
use Rattle.access_tags.specs.Numbering.{Numbering, located, is_name, is_named, position, view, IsPlaced, locations, is_at, tag_at}
use Rattle.access_tags.proofs.Marks.{same_self, swap_same}

second : (a b : Bool) → (a || b) ≡ true → a ≡ false → b ≡ true
second true b e f = absurd (cc)
second false b e f = e

-- two locations have one position where they are the same
pub same_position : (ls : List Location) (L M : Location) → list_any (same M) ls ≡ true → nat_eq (position ls L) (position ls M) ≡ same L M
same_position [] L M h = absurd (cc)
same_position (N ∷ ls) L M h = elim (cases_Bool (same L N)) [
  | inl l ↦ elim (cases_Bool (same M N)) [
    | inl m ↦ rw l (rw m (eq-eqb 0 0 refl ∙ sym (same_self L M (same_true L N l ∙ sym (same_true M N m)))))
    | inr m ↦ rw l (rw m (ne_eqb 0 (suc (position ls M)) (λ q. absurd (omega arith)) ∙ sym (ap (λ (x : Location). same x M) (same_true L N l) ∙ (swap_same M N ∙ m))))
  ]
  | inr l ↦ elim (cases_Bool (same M N)) [
    | inl m ↦ rw l (rw m (ne_eqb (suc (position ls L)) 0 (λ q. absurd (omega arith)) ∙ sym (ap (λ (x : Location). same L x) (same_true M N m) ∙ l)))
    | inr m ↦ rw l (rw m (eqb-suc-suc (position ls L) (position ls M) ∙ same_position ls L M (second (same M N) _ h m)))
  ]
]

-- a change in one list of tags, and in none
one_list : (ls : List Location) (f : Tag → Tag) (v v' : ℕ → Tag) (b : Bool) (i : ℕ) (L M : Location) → b ≡ true → i ≡ position ls M → list_any (same M) ls ≡ true →
    ((l : ℕ) → v' l ≡ cond (b && nat_eq l i) (f (v i)) (v l)) → v' (position ls L) ≡ cond (same L M) (f (v (position ls M))) (v (position ls L))
one_list ls f v v' b i L M y e h g = g (position ls L) ∙ (rw y (rw e (rw (same_position ls L M h) refl)))

no_list : (f : Tag → Tag) (v v' : ℕ → Tag) (b : Bool) (i l : ℕ) → b ≡ false → ((l : ℕ) → v' l ≡ cond (b && nat_eq l i) (f (v i)) (v l)) → v' l ≡ v l
no_list f v v' b i l y g = g l ∙ rw y refl

apart_sorts : (L M : Location) (a b : Bool) → is_named L ≡ a → is_named M ≡ b → not a ≡ b → same L M ≡ false
apart_sorts L M a b e f d = elim (cases_Bool (same L M)) [
  | inl s ↦ absurd (never a (d ∙ (sym f ∙ (ap (λ (x : Location). is_named x) (sym (same_true L M s)) ∙ e))))
  | inr s ↦ s
]
  where
    never : (a : Bool) → not a ≡ a → ⊥
    never true q = absurd (cc)
    never false q = absurd (cc)

module _ (n : Numbering) where
  in_names : (c d : ℕ → Tag) (L : Location) → is_named L ≡ true → view n c d L ≡ d (position n.names L)
  in_names c d L e = rw e refl

  in_cells : (c d : ℕ → Tag) (L : Location) → is_named L ≡ false → view n c d L ≡ c (position n.cells L)
  in_cells c d L e = rw e refl

  -- the tags of locations after a change of the tag of one
  pub changed : (x : Touched) (f : Tag → Tag) (c d c' d' : ℕ → Tag) → IsPlaced n x → ((l : ℕ) → c' l ≡ cond (not (is_name x.spot) && nat_eq l x.at) (f (c x.at)) (c l)) →
      ((l : ℕ) → d' l ≡ cond (is_name x.spot && nat_eq l x.at) (f (d x.at)) (d l)) → (L : Location) → view n c' d' L ≡ cond (is_at n L x) (f (view n c d (located n.names x.spot))) (view n c d L)
  changed x f c d c' d' p g h L = let M = located n.names x.spot in elim (cases_Bool (is_name x.spot)) [
    | inl k ↦ let m : is_named M ≡ true = p.kind ∙ k in elim (cases_Bool (is_named L)) [
      | inl e ↦ in_names c' d' L e ∙ (one_list n.names f d d' (is_name x.spot) x.at L M k
          (p.at ∙ ap (λ (b : Bool). position (cond b n.names n.cells) M) m) (subst (λ (b : Bool). list_any (same M) (cond b n.names n.cells) ≡ true) m p.there) h
          ∙ (ap (λ (y : Tag). cond (same L M) (f y) (d (position n.names L))) (sym (in_names c d M m)) ∙ ap (λ (y : Tag). cond (same L M) (f (view n c d M)) y) (sym (in_names c d L e))))
      | inr e ↦ in_cells c' d' L e ∙ (no_list f c c' (not (is_name x.spot)) x.at (position n.cells L) (ap not k) g
          ∙ (sym (in_cells c d L e) ∙ sym (ap (λ (b : Bool). cond b (f (view n c d M)) (view n c d L)) (apart_sorts L M false true e m refl))))
    ]
    | inr k ↦ let m : is_named M ≡ false = p.kind ∙ k in elim (cases_Bool (is_named L)) [
      | inl e ↦ in_names c' d' L e ∙ (no_list f d d' (is_name x.spot) x.at (position n.names L) k h
          ∙ (sym (in_names c d L e) ∙ sym (ap (λ (b : Bool). cond b (f (view n c d M)) (view n c d L)) (apart_sorts L M true false e m refl))))
      | inr e ↦ in_cells c' d' L e ∙ (one_list n.cells f c c' (not (is_name x.spot)) x.at L M (ap not k)
          (p.at ∙ ap (λ (b : Bool). position (cond b n.names n.cells) M) m) (subst (λ (b : Bool). list_any (same M) (cond b n.names n.cells) ≡ true) m p.there) g
          ∙ (ap (λ (y : Tag). cond (same L M) (f y) (c (position n.cells L))) (sym (in_cells c d M m)) ∙ ap (λ (y : Tag). cond (same L M) (f (view n c d M)) y) (sym (in_cells c d L e))))
    ]
  ]

  -- the tag of an entry is that of its location
  pub tag_there : (c d : ℕ → Tag) (x : Touched) → IsPlaced n x → tag_at c d x ≡ view n c d (located n.names x.spot)
  tag_there c d x p = ap (λ (b : Bool). cond b (d x.at) (c x.at)) (sym p.kind) ∙ ap (λ (i : ℕ). cond (is_named (located n.names x.spot)) (d i) (c i)) p.at

  pub any_location : (L : Location) (xs : List Touched) → list_any (is_at n L) xs ≡ list_any (same L) (locations n xs)
  any_location L [] = refl
  any_location L (x ∷ xs) = ap (λ (b : Bool). is_at n L x || b) (any_location L xs)
