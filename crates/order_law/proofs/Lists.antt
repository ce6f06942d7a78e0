-- Lists in pairs: what is made of them alike is in pairs again.
use Rattle.std.proofs.Common.{◌≡◌, ℕ, zero, suc, Bool, true, false, ◌&&◌, ◌||◌, not, cond, List, length, map, filter, flat_map, slice_get, set, take, drop, reverse, replicate, refl, sym, ◌∙◌, ap, subst, inl, inr, nat_eq, Option, is_some}
use Rattle.std.specs.List.{list_any, list_all}
use mathlib.Core.List.{reverse_aux}
use Rattle.std.proofs.lemmas.Bool.{cases_eq, eq-eqb, ne_eqb}
use Rattle.jvm_model.specs.Classes.{member, first_mentions}
use Rattle.order_law.specs.Pairing.{OneToOne, PairedList, no_more, one_more, PairedOption, both_none, both_some}
use Rattle.order_law.proofs.Pairs.{list-append}

-- equality of numbers in a one-to-one relation
pub test-paired : {Q : ℕ → ℕ → Type 0} → OneToOne Q → (a b x y : ℕ) → Q a b → Q x y → nat_eq a x ≡ nat_eq b y
test-paired {Q} o a b x y e g = elim (cases_eq a x) [
  | inl h ↦ let k : b ≡ y = o.from_left a b y e (subst (λ (z : ℕ). Q z y) (sym h) g) in eq-eqb a x h ∙ sym (eq-eqb b y k)
  | inr h ↦ ne_eqb a x h ∙ sym (ne_eqb b y (λ k. h (o.from_right a x b e (subst (λ (z : ℕ). Q x z) (sym k) g))))
]

pub both : (a b c d : Bool) → a ≡ b → c ≡ d → (a && c) ≡ (b && d)
both a b c d e g = rw (e, g)

pub either : (a b c d : Bool) → a ≡ b → c ≡ d → (a || c) ≡ (b || d)
either a b c d e g = rw (e, g)

module _ {A B : Type 0} (R : A → B → Type 0) where
  pub cond-list : (b c : Bool) {xs us : List A} {ys vs : List B} → b ≡ c → PairedList R xs ys → PairedList R us vs → PairedList R (cond b xs us) (cond c ys vs)
  cond-list true true e p q = p
  cond-list false false e p q = q
  cond-list _ _ e p q = absurd (cc)

  pub length-paired : {xs : List A} {ys : List B} → PairedList R xs ys → length xs ≡ length ys
  length-paired no_more = refl
  length-paired (one_more r rs) = ap suc (length-paired rs)

  pub filter-paired : (f : A → Bool) (g : B → Bool) → ((x : A) (y : B) → R x y → f x ≡ g y) → {xs : List A} {ys : List B} → PairedList R xs ys → PairedList R (filter f xs) (filter g ys)
  filter-paired f g h no_more = no_more
  filter-paired f g h (one_more {x} {y} r rs) = cond-list (f x) (g y) (h x y r) (one_more r (filter-paired f g h rs)) (filter-paired f g h rs)

  pub any-paired : (f : A → Bool) (g : B → Bool) → ((x : A) (y : B) → R x y → f x ≡ g y) → {xs : List A} {ys : List B} → PairedList R xs ys → list_any f xs ≡ list_any g ys
  any-paired f g h no_more = refl
  any-paired f g h (one_more {x} {y} r rs) = either (f x) (g y) _ _ (h x y r) (any-paired f g h rs)

  pub all-paired : (f : A → Bool) (g : B → Bool) → ((x : A) (y : B) → R x y → f x ≡ g y) → {xs : List A} {ys : List B} → PairedList R xs ys → list_all f xs ≡ list_all g ys
  all-paired f g h no_more = refl
  all-paired f g h (one_more {x} {y} r rs) = both (f x) (g y) _ _ (h x y r) (all-paired f g h rs)

  pub get-list : (i : ℕ) {xs : List A} {ys : List B} → PairedList R xs ys → PairedOption R (slice_get xs i) (slice_get ys i)
  get-list i no_more = both_none
  get-list zero (one_more r rs) = both_some r
  get-list (suc i) (one_more r rs) = get-list i rs

  pub set-list : (i : ℕ) {x : A} {y : B} {xs : List A} {ys : List B} → R x y → PairedList R xs ys → PairedList R (set xs i x) (set ys i y)
  set-list i v no_more = no_more
  set-list zero v (one_more r rs) = one_more v rs
  set-list (suc i) v (one_more r rs) = one_more r (set-list i v rs)

  pub take-list : (i : ℕ) {xs : List A} {ys : List B} → PairedList R xs ys → PairedList R (take i xs) (take i ys)
  take-list zero no_more = no_more
  take-list zero (one_more r rs) = no_more
  take-list (suc i) no_more = no_more
  take-list (suc i) (one_more r rs) = one_more r (take-list i rs)

  pub drop-list : (i : ℕ) {xs : List A} {ys : List B} → PairedList R xs ys → PairedList R (drop i xs) (drop i ys)
  drop-list zero no_more = no_more
  drop-list zero (one_more r rs) = one_more r rs
  drop-list (suc i) no_more = no_more
  drop-list (suc i) (one_more r rs) = drop-list i rs

  reverse_onto : {xs us : List A} {ys vs : List B} → PairedList R xs ys → PairedList R us vs → PairedList R (reverse_aux xs us) (reverse_aux ys vs)
  reverse_onto no_more q = q
  reverse_onto (one_more r rs) q = reverse_onto rs (one_more r q)

  pub reverse-list : {xs : List A} {ys : List B} → PairedList R xs ys → PairedList R (reverse xs) (reverse ys)
  reverse-list r = reverse_onto r no_more

  pub replicate-list : (k : ℕ) {x : A} {y : B} → R x y → PairedList R (replicate k x) (replicate k y)
  replicate-list zero r = no_more
  replicate-list (suc k) r = one_more r (replicate-list k r)

  pub is_some-paired : {x : Option A} {y : Option B} → PairedOption R x y → is_some x ≡ is_some y
  is_some-paired both_none = refl
  is_some-paired (both_some r) = refl

module _ {A B C D : Type 0} (R : A → B → Type 0) (S : C → D → Type 0) where
  pub map-paired : (f : A → C) (g : B → D) → ((x : A) (y : B) → R x y → S (f x) (g y)) → {xs : List A} {ys : List B} → PairedList R xs ys → PairedList S (map f xs) (map g ys)
  map-paired f g h no_more = no_more
  map-paired f g h (one_more {x} {y} r rs) = one_more (h x y r) (map-paired f g h rs)

  pub flat_map-paired : (f : A → List C) (g : B → List D) → ((x : A) (y : B) → R x y → PairedList S (f x) (g y)) → {xs : List A} {ys : List B} → PairedList R xs ys → PairedList S (flat_map f xs) (flat_map g ys)
  flat_map-paired f g h no_more = no_more
  flat_map-paired f g h (one_more {x} {y} r rs) = list-append (h x y r) (flat_map-paired f g h rs)

module _ (R : ℕ → ℕ → Type 0) (o : OneToOne R) where
  pub member-paired : (a b : ℕ) → R a b → {xs ys : List ℕ} → PairedList R xs ys → member a xs ≡ member b ys
  member-paired a b r no_more = refl
  member-paired a b r (one_more {x} {y} s rs) = either (nat_eq a x) (nat_eq b y) _ _ (test-paired o a b x y r s) (member-paired a b r rs)

  pub mentions-paired : {xs ys : List ℕ} → PairedList R xs ys → PairedList R (first_mentions xs) (first_mentions ys)
  mentions-paired no_more = no_more
  mentions-paired (one_more {x} {y} r rs) = one_more r (filter-paired R (λ z. not (nat_eq x z)) (λ z. not (nat_eq y z)) (λ a b s. ap not (test-paired o x y a b r s)) (mentions-paired rs))
