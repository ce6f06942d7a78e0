-- Texts by their test, which says whether they are the same.
use Rattle.std.proofs.Common.{◌≡◌, ℕ, List, refl, true}
use Rattle.std.proofs.lemmas.Slice.Eq.{bytes_eq-Decides}
use Rattle.std.specs.Str.{bytes_eq}

pub units_true : (x y : List ℕ) → bytes_eq x y ≡ true → x ≡ y
units_true x y e = (bytes_eq-Decides x y).0 e

pub units_same : (x y : List ℕ) → x ≡ y → bytes_eq x y ≡ true
units_same x y e = (bytes_eq-Decides x y).1 e

pub units_refl : (x : List ℕ) → bytes_eq x x ≡ true
units_refl x = units_same x x refl
