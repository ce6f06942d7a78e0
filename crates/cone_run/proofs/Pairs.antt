-- Lists in pairs.
use Rattle.std.proofs.Common.{◌≡◌, ℕ, zero, suc, ◌+◌, ◌<◌, ◌≤◌, List, [], ◌∷◌, ◌++◌, length, get_or, take, refl, sym, subst, arith}
use Rattle.std.proofs.lemmas.List.{take_all, take_more}
use Rattle.order_law.specs.Pairing.{PairedList, no_more, one_more}
use Rattle.order_law.proofs.Pairs.{list-append}

pub paired_length : {A B : Type 0} {R : A → B → Type 0} {xs : List A} {ys : List B} → PairedList R xs ys → length ys ≡ length xs
paired_length no_more = refl
paired_length (one_more r rs) = let e = paired_length rs in omega arith

pub paired_at : {A B : Type 0} {R : A → B → Type 0} {xs : List A} {ys : List B} → PairedList R xs ys → (i : ℕ) (d : A) (e : B) → i < length xs → R (get_or xs i d) (get_or ys i e)
paired_at no_more i d e h = absurd (omega arith)
paired_at (one_more r rs) zero d e h = r
paired_at (one_more r rs) (suc i) d e h = paired_at rs i d e (omega arith)

-- one pair more
pub paired_more : {A B : Type 0} {R : A → B → Type 0} (xs : List A) (ys : List B) (i : ℕ) (d : A) (y : B) → i < length xs → PairedList R (take i xs) ys → R (get_or xs i d) y → PairedList R (take (i + 1) xs) (ys ++ (y ∷ []))
paired_more {A} {B} {R} xs ys i d y h p r = subst (λ (z : List A). PairedList R z (ys ++ (y ∷ []))) (sym (take_more xs i d h)) (list-append p (one_more r no_more))

-- all of them
pub paired_all : {A B : Type 0} {R : A → B → Type 0} (xs : List A) (ys : List B) (i : ℕ) → length xs ≤ i → PairedList R (take i xs) ys → PairedList R xs ys
paired_all {A} {B} {R} xs ys i h p = subst (λ (z : List A). PairedList R z ys) (take_all i xs h) p

-- none yet
pub paired_none : {A B : Type 0} {R : A → B → Type 0} (xs : List A) (ys : List B) → ys ≡ [] → PairedList R (take 0 xs) ys
paired_none {A} {B} {R} xs ys e = subst (λ (z : List B). PairedList R [] z) (sym e) no_more

-- and a list with the next one at its end
pub paired_next : {A B : Type 0} {R : A → B → Type 0} (xs : List A) (ys new : List B) (i : ℕ) (d : A) (y : B) → i < length xs → new ≡ ys ++ (y ∷ []) → PairedList R (take i xs) ys → R (get_or xs i d) y → PairedList R (take (i + 1) xs) new
paired_next {A} {B} {R} xs ys new i d y h e p r = subst (λ (z : List B). PairedList R (take (i + 1) xs) z) (sym e) (paired_more xs ys i d y h p r)
