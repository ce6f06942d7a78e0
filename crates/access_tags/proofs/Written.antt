-- What is kept stands for the touches after the elements of an array were written.
use Rattle.std.proofs.Common.{◌≡◌, ◌⊎◌, ℕ, zero, suc, ◌+◌, ◌-◌, ◌<◌, ◌≤◌, true, cond, List, [], ◌∷◌, ◌++◌, length, take, refl, sym, ◌∙◌, ap, subst, arith, nat_eq, inl, inr, append_assoc}
use Rattle.std.proofs.Math.Seq.{take-length}
use Rattle.std.proofs.lemmas.Bool.{cases_order, cases_lt, eq-eqb, ne_eqb, lt-ltb, le-ltb, le-leb, lt-leb}
use Rattle.std.proofs.lemmas.List.{append-nil}
use Rattle.jvm_model.specs.declared.values.{Location.Location, Touch.Touch, Value.Value}
use Rattle.jvm_model.specs.declared.values.Location.TheVariants as place
use Rattle.jvm_model.specs.declared.values.Value.TheVariants.{Null}
use Rattle.jvm_model.specs.Access.{elems_made, write_of}
use Rattle.order_law.specs.Histories.{Touches}
use Rattle.access_tags.specs.declared.cells.Cells.{Cells}
use Rattle.access_tags.specs.declared.conflict.{Touched.Touched}
use Rattle.access_tags.specs.declared.interval.Interval.{Interval}
use Rattle.access_tags.specs.Tag.{Tag, is_new, noted, with_changed}
use Rattle.access_tags.specs.{Intervals.part_at, Intervals.parts_to, Intervals.parts_of, Shelf.count, Stands.StandFor, Unread.AreUnread}
use Rattle.access_tags.specs.Numbering.{Numbering, IsPlaced, is_named, number, view}
use Rattle.access_tags.specs.Within.{AreWithin, room}
use Rattle.access_tags.specs.Written.{elems_from}
use Rattle.access_tags.proofs.{PartNotes.elems_more, Spanned.to_more, Stood.noted_stands, Unread.first_unread, Unread.kept_unread}

-- one change more
pub changed_none : (f : Tag → Tag) (c : ℕ → Tag) (a l : ℕ) → with_changed f c a (a + 0) l ≡ c l
changed_none f c a l = elim (cases_lt l a) [
  | inl h ↦ rw (lt-leb a l h) refl
  | inr h ↦ rw (le-leb a l h) (rw (le-ltb l (a + 0) (omega arith)) refl)
]

pub changed_past : (f : Tag → Tag) (c : ℕ → Tag) (a k l : ℕ) → a + k ≤ l → with_changed f c a (a + k) l ≡ c l
changed_past f c a k l h = rw (le-leb a l (omega arith)) (rw (le-ltb l (a + k) h) refl)

pub changed_more : (f : Tag → Tag) (c : ℕ → Tag) (a k j l : ℕ) → j ≡ a + k → with_changed f c a (a + (k + 1)) l ≡ cond (nat_eq l j) (f (with_changed f c a (a + k) j)) (with_changed f c a (a + k) l)
changed_more f c a k j l e = elim (cases_order l j) [
  | inl q ↦ rw (eq-eqb l j q) (rw (changed_past f c a k j (omega arith)) (rw (le-leb a l (omega arith)) (rw (lt-ltb l (a + (k + 1)) (omega arith)) (ap (λ (i : ℕ). f (c i)) q))))
  | inr (inl h) ↦ rw (ne_eqb l j (λ q. omega arith)) (rw (lt-ltb l (a + (k + 1)) (omega arith)) (rw (lt-ltb l (a + k) (omega arith)) refl))
  | inr (inr h) ↦ rw (ne_eqb l j (λ q. omega arith)) (rw (le-ltb l (a + (k + 1)) (omega arith)) (rw (le-ltb l (a + k) (omega arith)) refl))
]

-- a change of all in a range
pub changed_in : (f : Tag → Tag) (c e : ℕ → Tag) (first end l : ℕ) → (first ≤ l → l < end → e l ≡ f (c l)) → ((l < first) ⊎ (end ≤ l) → e l ≡ c l) → e l ≡ with_changed f c first end l
changed_in f c e first end l h k = elim (cases_lt l first) [
  | inl a ↦ rw (lt-leb first l a) (k (inl a))
  | inr a ↦ elim (cases_lt l end) [
    | inl b ↦ rw (le-leb first l a) (rw (lt-ltb l end b) (h a b))
    | inr b ↦ rw (le-leb first l a) (rw (le-ltb l end b) (k (inr b)))
  ]
]

-- the same tags by their numbers
same_view : (n : Numbering) (c e d : ℕ → Tag) → ((l : ℕ) → e l ≡ c l) → (L : Location) → view n e d L ≡ view n c d L
same_view n c e d g L = ap (λ (z : Tag). cond (is_named L) (d (number n L)) z) (g (number n L))

same_stands : (n : Numbering) (T : Touches) (t : ℕ) (ts : List Touch) (c e d : ℕ → Tag) (xs : List Touched) → ((l : ℕ) → e l ≡ c l) → StandFor n T t ts c d xs → StandFor n T t ts e d xs
same_stands n T t ts c e d xs g s = record { tags = λ L. same_view n c e d g L ∙ s.tags L; touched = s.touched; placed = s.placed }

module _ (c d : ℕ → Tag) (o a m : ℕ) (new : (i : ℕ) → i < m → is_new (c (a + i)).mark ≡ true) where
  abbrev s : Interval
  s = elems_from o a m

  -- the part with an index is new, while those before it are written
  part_new : (k j : ℕ) → j ≡ a + k → k < m → is_new (with_changed (noted true) c a (a + k) j).mark ≡ true
  part_new k j e h = ap (λ (g : Tag). is_new g.mark) (changed_past (noted true) c a k j (omega arith) ∙ ap c e) ∙ new k h

  module _ (n : Numbering) (T : Touches) (t : ℕ) (ts : List Touch) (vs : List Value) (many : length vs ≡ m) (p : (i : ℕ) → i < m → IsPlaced n (part_at s i)) where
    written_to : (xs : List Touched) (k : ℕ) → k ≤ m → StandFor n T t ts c d xs → StandFor n T t (ts ++ elems_made o 0 (take k vs)) (with_changed (noted true) c a (a + k)) d (xs ++ parts_to s k)
    written_to xs zero h f = subst (λ (us : List Touch). StandFor n T t us (with_changed (noted true) c a (a + 0)) d (xs ++ [])) (sym (append-nil ts))
        (subst (λ (ys : List Touched). StandFor n T t ts (with_changed (noted true) c a (a + 0)) d ys) (sym (append-nil xs)) (same_stands n T t ts c (with_changed (noted true) c a (a + 0)) d xs (changed_none (noted true) c a) f))
    written_to xs (suc k) h f =
        let y = part_at s k in let x = write_of (place.Elem o k) in let us = elems_made o 0 (take k vs) in let j = a + (k - 0) in let next : k + 1 ≡ suc k = omega arith in
        let g = noted_stands n T t (ts ++ us) (with_changed (noted true) c a (a + k)) d (xs ++ parts_to s k) (written_to xs k (omega arith) f) y x true (with_changed (noted true) c a (a + (k + 1))) d true refl (p k (omega arith)) refl
        (sym (part_new k j (omega arith) (omega arith))) (λ l. changed_more (noted true) c a k j l (omega arith)) (λ l. refl) in
        subst (λ (i : ℕ). StandFor n T t (ts ++ elems_made o 0 (take i vs)) (with_changed (noted true) c a (a + i)) d (xs ++ parts_to s i)) next
        (subst (λ (zs : List Touch). StandFor n T t zs (with_changed (noted true) c a (a + (k + 1))) d (xs ++ parts_to s (k + 1))) (append_assoc ts us (x ∷ []) ∙ ap (λ (zs : List Touch). ts ++ zs) (sym (elems_more o vs k Null (omega arith))))
        (subst (λ (ys : List Touched). StandFor n T t ((ts ++ us) ++ x ∷ []) (with_changed (noted true) c a (a + (k + 1))) d ys) (append_assoc xs (parts_to s k) (y ∷ []) ∙ ap (λ (ys : List Touched). xs ++ ys) (sym (to_more s k (omega arith)))) g))

    pub written_stands : (xs : List Touched) (e : ℕ → Tag) → ((l : ℕ) → e l ≡ with_changed (noted true) c a (a + m) l) → StandFor n T t ts c d xs → StandFor n T t (ts ++ elems_made o 0 vs) e d (xs ++ parts_of s)
    written_stands xs e g f = same_stands n T t (ts ++ elems_made o 0 vs) (with_changed (noted true) c a (a + m)) e d (xs ++ parts_of s) g
        (subst (λ (ws : List Value). StandFor n T t (ts ++ elems_made o 0 ws) (with_changed (noted true) c a (a + m)) d (xs ++ parts_of s)) (ap (λ (i : ℕ). take i vs) (sym many) ∙ take-length vs) (written_to xs m (omega arith) f))

  unread_to : (xs : List Touched) (k : ℕ) → k ≤ m → AreUnread c d xs → AreUnread (with_changed (noted true) c a (a + k)) d (xs ++ parts_to s k)
  unread_to xs zero h u = subst (λ (ys : List Touched). AreUnread (with_changed (noted true) c a (a + 0)) d ys) (sym (append-nil xs)) (kept_unread c d (with_changed (noted true) c a (a + 0)) d (changed_none (noted true) c a) (λ l. refl) xs u)
  unread_to xs (suc k) h u = let y = part_at s k in let j = a + (k - 0) in let next : k + 1 ≡ suc k = omega arith in
      subst (λ (i : ℕ). AreUnread (with_changed (noted true) c a (a + i)) d (xs ++ parts_to s i)) next
      (subst (λ (ys : List Touched). AreUnread (with_changed (noted true) c a (a + (k + 1))) d ys) (append_assoc xs (parts_to s k) (y ∷ []) ∙ ap (λ (ys : List Touched). xs ++ ys) (sym (to_more s k (omega arith))))
      (first_unread (with_changed (noted true) c a (a + k)) d (with_changed (noted true) c a (a + (k + 1))) d y.spot j true (λ l. changed_more (noted true) c a k j l (omega arith)) (λ l. refl) (xs ++ parts_to s k) refl (part_new k j (omega arith) (omega arith)) (unread_to xs k (omega arith) u)))

  pub unread_written : (xs : List Touched) (e : ℕ → Tag) → ((l : ℕ) → e l ≡ with_changed (noted true) c a (a + m) l) → AreUnread c d xs → AreUnread e d (xs ++ parts_of s)
  unread_written xs e g u = kept_unread (with_changed (noted true) c a (a + m)) d e d g (λ l. refl) (xs ++ parts_of s) (unread_to xs m (omega arith) u)

-- the elements are among the locations
within_one : (c d : Cells) (xs : List Touched) (y : Touched) → AreWithin c d xs → y.at < room c d y.spot → AreWithin c d (xs ++ y ∷ [])
within_one c d [] y f h zero z l = h
within_one c d [] y f h (suc k) z l = absurd (omega arith)
within_one c d (x ∷ xs) y f h zero z l = f 0 z (omega arith)
within_one c d (x ∷ xs) y f h (suc k) z l = within_one c d xs y (λ i w m. f (suc i) w (omega arith)) h k z (omega arith)

pub within_left : (c d : Cells) (xs ys : List Touched) → AreWithin c d (xs ++ ys) → AreWithin c d xs
within_left c d [] ys f k z l = absurd (omega (arith, l))
within_left c d (x ∷ xs) ys f zero z l = f 0 z (omega arith)
within_left c d (x ∷ xs) ys f (suc k) z l = within_left c d xs ys (λ i w m. f (suc i) w (omega arith)) k z (omega arith)

within_to : (c d : Cells) (xs : List Touched) (o a m k : ℕ) → k ≤ m → a + m ≤ count c → AreWithin c d xs → AreWithin c d (xs ++ parts_to (elems_from o a m) k)
within_to c d xs o a m zero h l f = subst (λ (ys : List Touched). AreWithin c d ys) (sym (append-nil xs)) f
within_to c d xs o a m (suc k) h l f = let s = elems_from o a m in let next : k + 1 ≡ suc k = omega arith in
    subst (λ (i : ℕ). AreWithin c d (xs ++ parts_to s i)) next
    (subst (λ (ys : List Touched). AreWithin c d ys) (append_assoc xs (parts_to s k) (part_at s k ∷ []) ∙ ap (λ (ys : List Touched). xs ++ ys) (sym (to_more s k (omega arith))))
    (within_one c d (xs ++ parts_to s k) (part_at s k) (within_to c d xs o a m k (omega arith) l f) (omega arith)))

pub within_written : (c d : Cells) (xs : List Touched) (o a m : ℕ) → a + m ≤ count c → AreWithin c d xs → AreWithin c d (xs ++ parts_of (elems_from o a m))
within_written c d xs o a m l f = within_to c d xs o a m m (omega arith) l f
