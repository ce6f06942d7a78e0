-- What std's wrapping methods answer, as exact results that are wrapped.
use Rattle.std.proofs.Common.{◌≡◌, ℕ, zero, suc, ◌/◌, ◌%◌, ◌^◌, ◌<◌, ◌≤◌, refl, sym, ap, ◌∙◌, arith}
use Rattle.std.specs.Int.{Width, w8, w16, w32, w64, int_wrap, int_shl, int_wrapping_div, cast_unsigned, cast_signed, int_rem_euclid}
use Rattle.std.specs.Int.RustNames.{FitsSigned, int_div, unsigned_abs}
use Rattle.std.specs.Prelude.{ℤ, pos, negsuc, ◌*ℤ◌, neg_ℤ}
use Rattle.std.proofs.{Math.Nat.mod-eq_of_lt, Math.Nat.div-le_self, Math.Pow.pow-lt}
use mir.Val.{bits}
use Rattle.std.proofs.lemmas.Int.{wraps, wrapping_mul-bits, int_wrap-mul_right, to_z-of_z, ints}

-- wrapping a number without sign keeps its low bits
int_wrap-pos : (w : Width) (n : ℕ) → n < 2 ^ bits w → int_wrap w (pos n) ≡ cast_signed w n
unfolding int_wrap
int_wrap-pos w n lt = ap (cast_signed w) (mod-eq_of_lt lt)

-- a shift to the left is a product
pub shl_is : (w : Width) (a : ℤ) (k : ℕ) → FitsSigned w a → 2 ^ k < 2 ^ bits w → cast_unsigned w a < 2 ^ bits w → int_shl w a k ≡ int_wrap w (a *ℤ pos (2 ^ k))
shl_is w a k fits small bits_fit =
    wrapping_mul-bits w (cast_unsigned w a) (2 ^ k) bits_fit small
    ∙ ap (λ (x : ℤ). int_wrap w (x *ℤ cast_signed w (2 ^ k))) (to_z-of_z w a fits)
    ∙ ap (λ (x : ℤ). int_wrap w (a *ℤ x)) (sym (int_wrap-pos w (2 ^ k) small))
    ∙ int_wrap-mul_right w a (pos (2 ^ k))

bits_32 : (a : ℤ) → FitsSigned w32 a → cast_unsigned w32 a < 2 ^ 32
bits_32 (pos n) fits = omega arith
bits_32 (negsuc n) fits = omega arith

bits_64 : (a : ℤ) → FitsSigned w64 a → cast_unsigned w64 a < 2 ^ 64
bits_64 (pos n) fits = omega arith
bits_64 (negsuc n) fits = omega arith

pub shl_32 : (a : ℤ) (k : ℕ) → FitsSigned w32 a → int_shl w32 a (k % 32) ≡ int_wrap w32 (a *ℤ pos (2 ^ (k % 32)))
shl_32 a k fits = shl_is w32 a (k % 32) fits (pow-lt {i = k % 32} {j = 32} (omega arith)) (bits_32 a fits)

pub shl_64 : (a : ℤ) (k : ℕ) → FitsSigned w64 a → int_shl w64 a (k % 64) ≡ int_wrap w64 (a *ℤ pos (2 ^ (k % 64)))
shl_64 a k fits = shl_is w64 a (k % 64) fits (pow-lt {i = k % 64} {j = 64} (omega arith)) (bits_64 a fits)

-- the bits of a number that is at most twice too large
wrap_small : (w : Width) (q : ℤ) → unsigned_abs q < 2 ^ bits w → cast_signed w (cast_unsigned w q) ≡ int_wrap w q
unfolding int_wrap
wrap_small w (pos n) lt = ap (cast_signed w) (sym (mod-eq_of_lt lt))
wrap_small w (negsuc n) lt = ap (cast_signed w) (omega (arith, mod-eq_of_lt {n = n} {m = 2 ^ bits w} (omega arith)))

unsigned_abs-neg : (n : ℕ) → unsigned_abs (neg_ℤ (pos n)) ≡ n
unsigned_abs-neg zero = refl
unsigned_abs-neg (suc n) = refl

-- a quotient is no larger than what is divided
quotient_le : (a b : ℤ) → unsigned_abs (int_div a b) ≤ unsigned_abs a
quotient_le (pos a) (pos b) = div-le_self a b
quotient_le (pos a) (negsuc b) = omega (arith, unsigned_abs-neg (a / suc b), div-le_self a (suc b))
quotient_le (negsuc a) (pos b) = omega (arith, unsigned_abs-neg (suc a / b), div-le_self (suc a) b)
quotient_le (negsuc a) (negsuc b) = div-le_self (suc a) (suc b)

wrapping_div_is : (w : Width) (a b : ℤ) → unsigned_abs a < 2 ^ bits w → int_wrapping_div w a b ≡ int_wrap w (int_div a b)
wrapping_div_is w a b lt = wrap_small w (int_div a b) (omega (arith, quotient_le a b))

small_32 : (a : ℤ) → FitsSigned w32 a → unsigned_abs a < 2 ^ 32
small_32 (pos n) fits = omega arith
small_32 (negsuc n) fits = omega arith

small_64 : (a : ℤ) → FitsSigned w64 a → unsigned_abs a < 2 ^ 64
small_64 (pos n) fits = omega arith
small_64 (negsuc n) fits = omega arith

pub wrapping_div_32 : (a b : ℤ) → FitsSigned w32 a → int_wrapping_div w32 a b ≡ int_wrap w32 (int_div a b)
wrapping_div_32 a b fits = wrapping_div_is w32 a b (small_32 a fits)

pub wrapping_div_64 : (a b : ℤ) → FitsSigned w64 a → int_wrapping_div w64 a b ≡ int_wrap w64 (int_div a b)
wrapping_div_64 a b fits = wrapping_div_is w64 a b (small_64 a fits)

-- the low 32 bits of a long, and the low 16 and 8 of an int
low_32 : (z : ℤ) → FitsSigned w64 z → cast_unsigned w64 z % 2 ^ 32 ≡ unsigned_abs (int_rem_euclid z (pos (2 ^ 32)))
low_32 (pos n) fits = refl
low_32 (negsuc n) fits = omega arith

low_16 : (z : ℤ) → FitsSigned w32 z → cast_unsigned w32 z % 2 ^ 16 ≡ unsigned_abs (int_rem_euclid z (pos (2 ^ 16)))
low_16 (pos n) fits = refl
low_16 (negsuc n) fits = omega arith

low_8 : (z : ℤ) → FitsSigned w32 z → cast_unsigned w32 z % 2 ^ 8 ≡ unsigned_abs (int_rem_euclid z (pos (2 ^ 8)))
low_8 (pos n) fits = refl
low_8 (negsuc n) fits = omega arith

pub wrap_low_32 : (z : ℤ) → FitsSigned w64 z → cast_signed w32 (cast_unsigned w64 z % 2 ^ 32) ≡ int_wrap w32 z
unfolding int_wrap
wrap_low_32 z fits = ap (cast_signed w32) (low_32 z fits)

pub wrap_low_16 : (z : ℤ) → FitsSigned w32 z → cast_signed w16 (cast_unsigned w32 z % 2 ^ 16) ≡ int_wrap w16 z
unfolding int_wrap
wrap_low_16 z fits = ap (cast_signed w16) (low_16 z fits)

pub wrap_low_8 : (z : ℤ) → FitsSigned w32 z → cast_signed w8 (cast_unsigned w32 z % 2 ^ 8) ≡ int_wrap w8 z
unfolding int_wrap
wrap_low_8 z fits = ap (cast_signed w8) (low_8 z fits)

pub ruleset wrapping = (wraps, shl_32, shl_64, wrapping_div_32, wrapping_div_64, wrap_low_32, wrap_low_16, wrap_low_8)
