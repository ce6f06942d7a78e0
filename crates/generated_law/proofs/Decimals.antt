-- Numbers in decimal, and names that end in one.
use Rattle.std.proofs.Common.{◌≡◌, ℕ, ◌<◌, ◌≤◌, Bool, true, false, not, List, [], ◌∷◌, drop, decimal, get_or, All, refl, ap, arith}
use Rattle.std.specs.{List.list_all, Str.bytes_eq, Str.Parse.AllDigits}
use Rattle.std.proofs.lemmas.{Bool.and_from, Bool.not-true, Fmt.decimal_is_IsNumeral, Fmt.decimal_injective}
use Rattle.std.proofs.{lemmas.List.Sums.AllPass-from_list_all, lemmas.Slice.Eq.bytes_eq-Decides, lemmas.Str.Parse.digit_from_value}

-- a test that each digit passes
abbrev pub TakesDigits : (ℕ → Bool) → Type 0
TakesDigits p = (d : ℕ) → 48 ≤ d → d ≤ 57 → p d ≡ true

digits_pass : (p : ℕ → Bool) → TakesDigits p → (ds : List ℕ) → AllDigits 10 ds → list_all p ds ≡ true
digits_pass p takes [] h = refl
digits_pass p takes (d ∷ ds) h =
    let r = digit_from_value d h.0 in
    and_from (p d) (list_all p ds) (takes d (omega (arith, r)) (omega (arith, r))) (digits_pass p takes ds h.1)

pub decimal_passes : (p : ℕ → Bool) → TakesDigits p → (n : ℕ) → n ≤ 1025 → list_all p (decimal n) ≡ true
decimal_passes p takes n few = digits_pass p takes (decimal n) (decimal_is_IsNumeral n (omega (arith, few))).0.1

-- no element passes
pub none_pass : (p : ℕ → Bool) (xs : List ℕ) → list_all (λ b. not (p b)) xs ≡ true → All (λ b. p b ≡ false) xs
none_pass p xs h = λ k d lt. not-true (p (get_or xs k d)) (AllPass-from_list_all (λ b. not (p b)) xs h k d lt)

-- Texts that differ.
pub unequal : (xs ys : List ℕ) → (xs ≡ ys → ⊥) → bytes_eq xs ys ≡ false
unequal xs ys differ = by (bytes_eq xs ys) refl
  where
    by : (b : Bool) → bytes_eq xs ys ≡ b → bytes_eq xs ys ≡ false
    by true e = absurd (differ ((bytes_eq-Decides xs ys).0 e))
    by false e = e

pub decimals_differ : (m n : ℕ) → m < n → n ≤ 1025 → bytes_eq (decimal n) (decimal m) ≡ false
decimals_differ m n less few = unequal (decimal n) (decimal m) (λ e. let same = decimal_injective n m (omega (arith, few)) (omega (arith, few)) e in absurd (omega (arith, same, less)))

-- two names of the same letter
pub names_differ : (letter m n : ℕ) → m < n → n ≤ 1025 → bytes_eq (letter ∷ decimal m) (letter ∷ decimal n) ≡ false
names_differ letter m n less few = unequal (letter ∷ decimal m) (letter ∷ decimal n) (λ e.
    let digits : decimal m ≡ decimal n = ap (drop 1) e in
    let same = decimal_injective m n (omega (arith, less, few)) (omega (arith, few)) digits in
    absurd (omega (arith, same, less)))
