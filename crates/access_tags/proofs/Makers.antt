-- The maker of an object, one test at a time.
use Rattle.std.proofs.Common.{◌≡◌, ℕ, suc, ◌+◌, ◌-◌, ◌<◌, ◌≤◌, List, ◌∷◌, length, get_or, drop, refl, ◌∙◌, ap, arith, drop-cons}
use Rattle.std.proofs.lemmas.{Bool.lt-ltb, Bool.le-ltb, List.drop_all}
use Rattle.jvm_model.specs.Texts.{maker}

step : (xs : List ℕ) (i d : ℕ) → i < length xs → drop i xs ≡ get_or xs i d ∷ drop (i + 1) xs
step xs i d h = let e : suc i ≡ i + 1 = omega arith in drop-cons xs i d h ∙ ap (λ (j : ℕ). get_or xs i d ∷ drop j xs) e

pub maker_here : (xs : List ℕ) (i t o : ℕ) → i < length xs → o < get_or xs i 0 → maker t (drop i xs) o ≡ (t, o + 1)
maker_here xs i t o h l = ap (λ ys. maker t ys o) (step xs i 0 h) ∙ rw (lt-ltb o (get_or xs i 0) l) refl

pub maker_next : (xs : List ℕ) (i t o : ℕ) → i < length xs → get_or xs i 0 ≤ o → maker t (drop i xs) o ≡ maker (t + 1) (drop (i + 1) xs) (o - get_or xs i 0)
maker_next xs i t o h l = ap (λ ys. maker t ys o) (step xs i 0 h) ∙ rw (le-ltb o (get_or xs i 0) l) refl

pub maker_end : (xs : List ℕ) (i t o : ℕ) → length xs ≤ i → maker t (drop i xs) o ≡ (t, o + 1)
maker_end xs i t o h = ap (λ ys. maker t ys o) (drop_all i xs h)
