-- The tags after a test ended at some parts and then at more, and the conflicts there.
use Rattle.std.proofs.Common.{◌≡◌, ℕ, ◌+◌, ◌-◌, ◌<◌, ◌≤◌, Bool, true, false, ◌||◌, ◌&&◌, not, cond, List, [], ◌∷◌, ◌++◌, length, get_or, take, map, flat_map, nat_eq, refl, arith, sym, ◌∙◌, ap, subst, inl, inr}
use Rattle.std.specs.List.{list_any, range_with_len}
use Rattle.std.proofs.lemmas.Bool.{cases_Bool, eqb-true, or_parts, and_parts}
use Rattle.std.proofs.lemmas.Grind.{flat_map-append}
use Rattle.std.proofs.lemmas.List.{append-nil, append_assoc, map-append}
use Rattle.std.proofs.lemmas.List.Folds.{list_any-append}
use Rattle.jvm_model.specs.declared.values.Location.{Location}
use Rattle.jvm_model.specs.World.{same}
use Rattle.jvm_model.proofs.Locations.{same_true}
use Rattle.access_tags.specs.declared.conflict.{Conflict.Conflict, LocationKey.LocationKey, Touched.Touched}
use Rattle.access_tags.specs.declared.interval.Interval.{Interval}
use Rattle.access_tags.specs.declared.mark.{Mark.Mark, Past.Past, Reader.Reader}
use Rattle.access_tags.specs.declared.table.Table.{Table}
use Rattle.access_tags.specs.Tag.{Tag, conflicts_at, ended}
use Rattle.access_tags.specs.Cells.{Apart, AreFresh, chain, tag_by}
use Rattle.access_tags.specs.{Counted.Counts, Counted.HaveCounted, HaveEnded.HaveEnded}
use Rattle.access_tags.specs.Numbering.{Numbering, conflicts_in, located, is_name, tag_at, view, ArePlaced, locations, is_at}
use Rattle.access_tags.specs.Intervals.{part_at, parts_to, parts_of, parts, spot_in}
use Rattle.access_tags.proofs.{Chains.chain_end, Marks.same_self, Spanned.to_more, Spanned.parts_more}
use Rattle.access_tags.proofs.Numbered.{changed, any_location, tag_there}

-- two lists, one after the other
placed_left : (n : Numbering) (xs ys : List Touched) → ArePlaced n (xs ++ ys) → ArePlaced n xs
placed_left n [] ys p = tt
placed_left n (x ∷ xs) ys p = (p.0, placed_left n xs ys p.1)

placed_right : (n : Numbering) (xs ys : List Touched) → ArePlaced n (xs ++ ys) → ArePlaced n ys
placed_right n [] ys p = p
placed_right n (x ∷ xs) ys p = placed_right n xs ys p.1

apart_left : (ls ms : List Location) → Apart same (ls ++ ms) → Apart same ls
apart_left [] ms a = tt
apart_left (L ∷ ls) ms a = ((or_parts (list_any (same L) ls) _ (sym (list_any-append (same L) ls ms) ∙ a.0)).0, apart_left ls ms a.1)

apart_right : (ls ms : List Location) → Apart same (ls ++ ms) → Apart same ms
apart_right [] ms a = a
apart_right (L ∷ ls) ms a = apart_right ls ms a.1

-- what is among the first isn't among the others
apart_both : (L : Location) (ls ms : List Location) → Apart same (ls ++ ms) → list_any (same L) ls ≡ true → list_any (same L) ms ≡ false
apart_both L [] ms a e = absurd (cc)
apart_both L (M ∷ ls) ms a e = elim (cases_Bool (same L M)) [
  | inl s ↦ subst (λ (N : Location). list_any (same N) ms ≡ false) (sym (same_true L M s)) (or_parts (list_any (same M) ls) _ (sym (list_any-append (same M) ls ms) ∙ a.0)).1
  | inr s ↦ apart_both L ls ms a.1 (rw s at e)
]

-- nor the other way round
apart_other : (L : Location) (ls ms : List Location) → Apart same (ls ++ ms) → list_any (same L) ms ≡ true → list_any (same L) ls ≡ false
apart_other L ls ms a e = elim (cases_Bool (list_any (same L) ls)) [
  | inl s ↦ absurd (let f = apart_both L ls ms a s in cc)
  | inr s ↦ s
]

both_sides : (a b : Bool) (t : ℕ) (x y z : Tag) → (a ≡ true → b ≡ false) → y ≡ cond a (ended t x) x → z ≡ cond b (ended t y) y → z ≡ cond (a || b) (ended t x) x
both_sides true true t x y z h e f = absurd (let q = h refl in cc)
both_sides true false t x y z h e f = f ∙ e
both_sides false true t x y z h e f = f ∙ ap (λ (g : Tag). ended t g) e
both_sides false false t x y z h e f = f ∙ e

-- conflicts that are counted
pub counted_none : (a : Table) → HaveCounted a a []
counted_none a = record { later = refl; counts = λ hs k. subst (λ (xs : List (Conflict LocationKey)). Counts a xs) (sym (append-nil hs)) k }

pub counted_after : (a b c : Table) (xs ys : List (Conflict LocationKey)) → HaveCounted a b xs → HaveCounted b c ys → HaveCounted a c (xs ++ ys)
counted_after a b c xs ys f g = record { later = g.later ∙ f.later; counts = λ hs k. subst (λ (zs : List (Conflict LocationKey)). Counts c zs) (append_assoc hs xs ys) (g.counts (hs ++ xs) (f.counts hs k)) }

-- the conflicts at parts whose tags are the same
same_conflicts : (n : Numbering) (c d e f : ℕ → Tag) (ys : List Touched) → ArePlaced n ys → ((L : Location) → list_any (same L) (locations n ys) ≡ true → view n e f L ≡ view n c d L) → conflicts_in e f ys ≡ conflicts_in c d ys
same_conflicts n c d e f [] p h = refl
same_conflicts n c d e f (y ∷ ys) p h =
    let M = located n.names y.spot in
    let g : tag_at e f y ≡ tag_at c d y = tag_there n e f y p.0 ∙ (h M (ap (λ (b : Bool). b || list_any (same M) (locations n ys)) (same_self M M refl)) ∙ sym (tag_there n c d y p.0)) in
    ap (λ (z : Tag). conflicts_at y.spot z ++ conflicts_in e f ys) g
    ∙ ap (λ (hs : List (Conflict LocationKey)). conflicts_at y.spot (tag_at c d y) ++ hs) (same_conflicts n c d e f ys p.1 (λ L q. h L (either (same L M) q)))
  where
    either : (b : Bool) {v : Bool} → v ≡ true → (b || v) ≡ true
    either true q = refl
    either false q = q

module _ (t : ℕ) where
  pub ended_none : (c d : ℕ → Tag) (a : Table) → HaveEnded t c d c d a a []
  ended_none c d a = record { some = ([], counted_none a); apart = λ n p q. record { tags = λ L. refl; counted = counted_none a } }

  pub ended_first : (c d : ℕ → Tag) (a : Table) (s : Interval) → HaveEnded t c d c d a a (parts_to s s.first)
  ended_first c d a s = let e : s.first - s.first ≡ 0 = omega arith in
      subst (λ (k : ℕ). HaveEnded t c d c d a a (map (λ i. part_at s i) (range_with_len s.first k))) (sym e) (ended_none c d a)

  pub ended_one : (c d e f : ℕ → Tag) (a b : Table) (x : Touched) → ((l : ℕ) → e l ≡ cond (not (is_name x.spot) && nat_eq l x.at) (ended t (c x.at)) (c l)) →
      ((l : ℕ) → f l ≡ cond (is_name x.spot && nat_eq l x.at) (ended t (d x.at)) (d l)) → HaveCounted a b (conflicts_at x.spot (tag_at c d x)) → HaveEnded t c d e f a b (x ∷ [])
  ended_one c d e f a b x g h k = record {
    some = (conflicts_at x.spot (tag_at c d x), k);
    apart = λ n p q. record {
      tags = λ L. changed n x (λ (z : Tag). ended t z) c d e f p.0 g h L ∙ elim (cases_Bool (is_at n L x)) [
        | inl s ↦ rw s (ap (λ (M : Location). ended t (view n c d M)) (sym (same_true L (located n.names x.spot) s)))
        | inr s ↦ rw s refl
      ];
      counted = subst (λ (hs : List (Conflict LocationKey)). HaveCounted a b hs) (sym (append-nil (conflicts_at x.spot (tag_at c d x)))) k;
    };
  }

  pub ended_after : (c d e f g h : ℕ → Tag) (a b b' : Table) (xs ys : List Touched) → HaveEnded t c d e f a b xs → HaveEnded t e f g h b b' ys → HaveEnded t c d g h a b' (xs ++ ys)
  ended_after c d e f g h a b b' xs ys u v = record {
    some = (u.some.0 ++ v.some.0, counted_after a b b' u.some.0 v.some.0 u.some.1 v.some.1);
    apart = λ n p q.
        let r = subst (λ (ls : List Location). Apart same ls) (map-append (λ (x : Touched). located n.names x.spot) xs ys) q in
        let ls = locations n xs in
        let ms = locations n ys in
        let x = u.apart n (placed_left n xs ys p) (apart_left ls ms r) in
        let y = v.apart n (placed_right n xs ys p) (apart_right ls ms r) in
        let s = same_conflicts n c d e f ys (placed_right n xs ys p) (λ L k. x.tags L ∙ ap (λ (z : Bool). cond z (ended t (view n c d L)) (view n c d L)) (any_location n L xs ∙ apart_other L ls ms r k)) in
        record {
          tags = λ L. both_sides (list_any (is_at n L) xs) (list_any (is_at n L) ys) t (view n c d L) (view n e f L) (view n g h L)
              (λ k. any_location n L ys ∙ apart_both L ls ms r (sym (any_location n L xs) ∙ k)) (x.tags L) (y.tags L)
              ∙ ap (λ (z : Bool). cond z (ended t (view n c d L)) (view n c d L)) (sym (list_any-append (is_at n L) xs ys));
          counted = subst (λ (hs : List (Conflict LocationKey)). HaveCounted a b' hs) (sym (flat_map-append (λ (x : Touched). conflicts_at x.spot (tag_at c d x)) xs ys))
              (counted_after a b b' (conflicts_in c d xs) (conflicts_in c d ys) x.counted (subst (λ (hs : List (Conflict LocationKey)). HaveCounted b b' hs) s y.counted));
        };
  }

-- where no test wrote or read, there are no conflicts
fresh_at : (x : LocationKey) (g : Tag) → g.writer ≡ 0 → g.readers ≡ [] → conflicts_at x g ≡ []
fresh_at x g w r = rw w (rw r (elim (cases_Bool g.mark.exposed) [
  | inl a ↦ rw a (elim (cases_Bool g.mark.written) [ inl b ↦ rw b refl | inr b ↦ rw b refl ])
  | inr a ↦ rw a (elim (cases_Bool g.mark.written) [ inl b ↦ rw b refl | inr b ↦ rw b refl ])
]))

pub counted_fresh : (t : Table) (x : LocationKey) (g : Tag) → g.writer ≡ 0 → g.readers ≡ [] → HaveCounted t t (conflicts_at x g)
counted_fresh t x g w r = subst (λ (xs : List (Conflict LocationKey)). HaveCounted t t xs) (sym (fresh_at x g w r)) (counted_none t)

pub counted_there : (t : Table) (x : LocationKey) (p : Past) (rs : List Reader) (m : Mark) → (nat_eq p.writer 0 && nat_eq p.readers 0) ≡ true → HaveCounted t t (conflicts_at x (tag_by p rs m))
counted_there t x p rs m h = let both = and_parts (nat_eq p.writer 0) (nat_eq p.readers 0) h in
    counted_fresh t x (tag_by p rs m) (eqb-true p.writer 0 both.0) (ap (λ (n : ℕ). chain rs n) (eqb-true p.readers 0 both.1) ∙ chain_end rs)

-- no test that ended touched the parts of an interval
none_of : (f : Touched → List (Conflict LocationKey)) (s : Interval) → ((i : ℕ) → f (part_at s i) ≡ []) → (is : List ℕ) → flat_map f (map (λ i. part_at s i) is) ≡ []
none_of f s h [] = refl
none_of f s h (i ∷ is) = rw (h i) (none_of f s h is)

pub fresh_parts : (c d : ℕ → Tag) (s : Interval) → ((i : ℕ) → is_name (spot_in s.sort s.object i) ≡ false) → AreFresh c s.at → conflicts_in c d (parts_of s) ≡ []
fresh_parts c d s h k = none_of (λ x. conflicts_at x.spot (tag_at c d x)) s
    (λ i. rw (h i) (let g = k (s.at + (i - s.first)) (omega arith) in fresh_at (spot_in s.sort s.object i) (c (s.at + (i - s.first))) g.0 g.1))
    (range_with_len s.first (s.end - s.first))

-- one part or one interval more
module _ (f : Touched → List (Conflict LocationKey)) (a b c : Table) where
  pub counted_to : (s : Interval) (i : ℕ) → s.first ≤ i → HaveCounted a b (flat_map f (parts_to s i)) → HaveCounted b c (f (part_at s i)) → HaveCounted a c (flat_map f (parts_to s (i + 1)))
  counted_to s i h u v = subst (λ (ys : List (Conflict LocationKey)). HaveCounted a c ys)
      (sym (ap (λ (xs : List Touched). flat_map f xs) (to_more s i h) ∙ (flat_map-append f (parts_to s i) (part_at s i ∷ []) ∙ ap (λ (ys : List (Conflict LocationKey)). flat_map f (parts_to s i) ++ ys) (append-nil (f (part_at s i))))))
      (counted_after a b c (flat_map f (parts_to s i)) (f (part_at s i)) u v)

  pub counted_parts : (ss : List Interval) (i : ℕ) (d : Interval) → i < length ss → HaveCounted a b (flat_map f (parts (take i ss))) → HaveCounted b c (flat_map f (parts_of (get_or ss i d))) → HaveCounted a c (flat_map f (parts (take (i + 1) ss)))
  counted_parts ss i d h u v = subst (λ (ys : List (Conflict LocationKey)). HaveCounted a c ys)
      (sym (ap (λ (xs : List Touched). flat_map f xs) (parts_more ss i d h) ∙ flat_map-append f (parts (take i ss)) (parts_of (get_or ss i d))))
      (counted_after a b c (flat_map f (parts (take i ss))) (flat_map f (parts_of (get_or ss i d))) u v)

module _ (t : ℕ) (c d e f g h : ℕ → Tag) (a b b' : Table) where
  pub ended_to : (s : Interval) (i : ℕ) → s.first ≤ i → HaveEnded t c d e f a b (parts_to s i) → HaveEnded t e f g h b b' (part_at s i ∷ []) → HaveEnded t c d g h a b' (parts_to s (i + 1))
  ended_to s i l u v = subst (λ (xs : List Touched). HaveEnded t c d g h a b' xs) (sym (to_more s i l)) (ended_after t c d e f g h a b b' (parts_to s i) (part_at s i ∷ []) u v)

  pub ended_parts : (ss : List Interval) (i : ℕ) (k : Interval) → i < length ss → HaveEnded t c d e f a b (parts (take i ss)) → HaveEnded t e f g h b b' (parts_of (get_or ss i k)) → HaveEnded t c d g h a b' (parts (take (i + 1) ss))
  ended_parts ss i k l u v = subst (λ (xs : List Touched). HaveEnded t c d g h a b' xs) (sym (parts_more ss i k l)) (ended_after t c d e f g h a b b' (parts (take i ss)) (parts_of (get_or ss i k)) u v)
