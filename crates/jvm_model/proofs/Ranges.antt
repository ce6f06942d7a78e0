-- Entries of lists by their places. Within its range a list that is extended where it is short is a list that is set.
use Rattle.std.proofs.Common.{◌≡◌, ℕ, zero, suc, ◌<◌, List, [], ◌∷◌, length, get_or, set, slice_get, replicate, All, Some, refl, ap, subst, arith}
use Rattle.std.proofs.lemmas.Option.{get_or_from_slice_get, slice_get_within}
use Rattle.jvm_model.specs.World.{put_at}

pub put_at_is_set : {A : Type 0} (d : A) (xs : List A) (i : ℕ) (v : A) → i < length xs → put_at d xs i v ≡ set xs i v
put_at_is_set d [] i v h = absurd (omega arith)
put_at_is_set d (x ∷ xs) zero v h = refl
put_at_is_set d (x ∷ xs) (suc i) v h = ap {B = List _} (λ ys. x ∷ ys) (put_at_is_set d xs i v (omega arith))

pub length_put_at : {A : Type 0} (d : A) (xs : List A) (i : ℕ) (v : A) → i < length xs → length (put_at d xs i v) ≡ length xs
length_put_at d [] i v h = absurd (omega arith)
length_put_at d (x ∷ xs) zero v h = refl
length_put_at d (x ∷ xs) (suc i) v h = ap suc (length_put_at d xs i v (omega arith))

-- what holds of each entry holds of the one at a place
pub all_there : {A : Type 0} (P : A → Type 0) (xs : List A) (i : ℕ) (x : A) → All P xs → slice_get xs i ≡ Some x → P x
all_there P xs i x h e = subst P (get_or_from_slice_get xs i x x e) (h i x (slice_get_within xs i x e))

pub default_in : {A : Type 0} (n i : ℕ) (d : A) → get_or (replicate n d) i d ≡ d
default_in zero i d = refl
default_in (suc n) zero d = refl
default_in (suc n) (suc i) d = default_in n i d
