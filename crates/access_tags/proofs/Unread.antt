-- Parts without an exposed read, after touches.
use Rattle.std.proofs.Common.{◌≡◌, ℕ, zero, suc, Bool, true, false, not, ◌&&◌, cond, nat_eq, List, [], ◌∷◌, ◌++◌, get_or, refl, sym, ◌∙◌, ap, arith, inl, inr, Result, Ok, Err, OnOk, OnErr, subst, ◌||◌}
use Rattle.std.proofs.lemmas.Bool.{cases_Bool, eqb-true}
use Rattle.access_tags.specs.declared.conflict.{LocationKey.LocationKey, Touched.Touched}
use Rattle.access_tags.specs.Tag.{Tag, is_new, noted}
use Rattle.access_tags.specs.Numbering.{are_alone, is_name, tag_at}
use Rattle.access_tags.specs.Unread.{AreUnread}

same_at : (c d e f : ℕ → Tag) → ((l : ℕ) → (e l).mark.exposed ≡ (c l).mark.exposed) → ((l : ℕ) → (f l).mark.exposed ≡ (d l).mark.exposed) → (x : Touched) → (tag_at e f x).mark.exposed ≡ (tag_at c d x).mark.exposed
same_at c d e f g h x = elim (cases_Bool (is_name x.spot)) [ inl b ↦ rw b (h x.at) | inr b ↦ rw b (g x.at) ]

same_unread : (c d e f : ℕ → Tag) → ((l : ℕ) → (e l).mark.exposed ≡ (c l).mark.exposed) → ((l : ℕ) → (f l).mark.exposed ≡ (d l).mark.exposed) → (xs : List Touched) → AreUnread c d xs → AreUnread e f xs
same_unread c d e f g h xs u k x l = same_at c d e f g h (get_or xs k x) ∙ u k x l

-- the same tags
pub kept_unread : (c d e f : ℕ → Tag) → ((l : ℕ) → e l ≡ c l) → ((l : ℕ) → f l ≡ d l) → (xs : List Touched) → AreUnread c d xs → AreUnread e f xs
kept_unread c d e f g h xs u = same_unread c d e f (λ l. ap (λ (t : Tag). t.mark.exposed) (g l)) (λ l. ap (λ (t : Tag). t.mark.exposed) (h l)) xs u

-- a write leaves what is read
write_same : (a : Bool) (c e : ℕ → Tag) (k : ℕ) → ((l : ℕ) → e l ≡ cond (a && nat_eq l k) (noted true (c k)) (c l)) → (l : ℕ) → (e l).mark.exposed ≡ (c l).mark.exposed
write_same false c e k g l = ap (λ (t : Tag). t.mark.exposed) (g l)
write_same true c e k g l = ap (λ (t : Tag). t.mark.exposed) (g l) ∙ elim (cases_Bool (nat_eq l k)) [
  | inl b ↦ rw b (ap (λ (i : ℕ). (c i).mark.exposed) (sym (eqb-true l k b)))
  | inr b ↦ rw b refl
]

-- after a write of a part, at these tags
module _ (c d e f : ℕ → Tag) (s : LocationKey) (k : ℕ) (write : Bool) (g : (l : ℕ) → e l ≡ cond (not (is_name s) && nat_eq l k) (noted write (c k)) (c l)) (h : (l : ℕ) → f l ≡ cond (is_name s && nat_eq l k) (noted write (d k)) (d l)) where
  pub written_unread : (xs : List Touched) → write ≡ true → AreUnread c d xs → AreUnread e f xs
  written_unread xs w u = same_unread c d e f
      (write_same (not (is_name s)) c e k (λ l. g l ∙ ap (λ (b : Bool). cond (not (is_name s) && nat_eq l k) (noted b (c k)) (c l)) w))
      (write_same (is_name s) d f k (λ l. h l ∙ ap (λ (b : Bool). cond (is_name s && nat_eq l k) (noted b (d k)) (d l)) w)) xs u

more_unread : (c d : ℕ → Tag) (xs : List Touched) (x : Touched) → AreUnread c d xs → (tag_at c d x).mark.exposed ≡ false → AreUnread c d (xs ++ x ∷ [])
more_unread c d [] x u e zero y l = e
more_unread c d [] x u e (suc k) y l = absurd (omega arith)
more_unread c d (z ∷ xs) x u e zero y l = u 0 y (omega arith)
more_unread c d (z ∷ xs) x u e (suc k) y l = more_unread c d xs x (λ i w m. u (suc i) w (omega arith)) e k y (omega arith)

new_unread : (a b : Bool) → (not a && not b) ≡ true → a ≡ false
new_unread true b e = absurd (cc)
new_unread false b e = refl

module _ (c d e f : ℕ → Tag) (s : LocationKey) (k : ℕ) (write : Bool) (g : (l : ℕ) → e l ≡ cond (not (is_name s) && nat_eq l k) (noted write (c k)) (c l)) (h : (l : ℕ) → f l ≡ cond (is_name s && nat_eq l k) (noted write (d k)) (d l)) where
  pub first_unread : (xs : List Touched) → write ≡ true → is_new (tag_at c d (record { spot = s; at = k })).mark ≡ true → AreUnread c d xs → AreUnread e f (xs ++ record { spot = s; at = k } ∷ [])
  first_unread xs w n u = more_unread e f xs (record { spot = s; at = k }) (written_unread c d e f s k write g h xs w u)
      (same_at c d e f
      (write_same (not (is_name s)) c e k (λ l. g l ∙ ap (λ (b : Bool). cond (not (is_name s) && nat_eq l k) (noted b (c k)) (c l)) w))
      (write_same (is_name s) d f k (λ l. h l ∙ ap (λ (b : Bool). cond (is_name s && nat_eq l k) (noted b (d k)) (d l)) w)) (record { spot = s; at = k })
      ∙ new_unread (tag_at c d (record { spot = s; at = k })).mark.exposed (tag_at c d (record { spot = s; at = k })).mark.written n)

-- what isn't read is read of any static alone
pub unread_alone : (c d : ℕ → Tag) (field : ℕ) (xs : List Touched) → AreUnread c d xs → are_alone c d field xs ≡ true
unread_alone c d field [] u = refl
unread_alone c d field (x ∷ xs) u = rw (u 0 x (omega arith)) (unread_alone c d field xs (λ i w m. u (suc i) w (omega arith)))

-- after a push that may be refused
pub pushed : {R E : Type 0} (P : List Touched → Type 0) (r : Result R E) (xs ys zs : List Touched) → OnOk r (ys ≡ xs ++ zs) → OnErr r (ys ≡ xs) → P (xs ++ zs) → P xs → P ys
pushed P (Ok z) xs ys zs e f u w = subst P (sym e) u
pushed P (Err z) xs ys zs e f u w = subst P (sym f) w

pub unread_left : (c d : ℕ → Tag) (xs ys : List Touched) → AreUnread c d (xs ++ ys) → AreUnread c d xs
unread_left c d [] ys u k x l = absurd (omega (arith, l))
unread_left c d (z ∷ xs) ys u zero x l = u 0 x (omega arith)
unread_left c d (z ∷ xs) ys u (suc k) x l = unread_left c d xs ys (λ i w m. u (suc i) w (omega arith)) k x (omega arith)

pub reads_nothing : (a b : Bool) → (a || not b) ≡ false → (a ≡ false) × (b ≡ true)
reads_nothing false true e = (refl, refl)
reads_nothing _ _ e = absurd (cc)
