-- A narrowed int is one of its type.
use Rattle.std.proofs.Common.{◌≡◌, ℕ, ℤ, pos, negsuc, ◌<◌, ◌≤◌, ◌-◌, ◌%◌, List, [], ◌∷◌, true, ◌&&◌, nat_eq, refl, sym, subst, arith, inl, inr}
use Rattle.std.specs.Prelude.{FitsSigned, int_le, int_lt}
use Rattle.std.specs.{List.AllByRecursion, Int.w8, Int.w16, Int.int_wrap, Int.int_rem_euclid}
use Rattle.std.proofs.lemmas.Bool.{or_cases, and_from, eqb-true, lt-ltb, le-leb}
use Rattle.std.proofs.lemmas.Int.{ints, SFits-int_wrap}
use Rattle.et_base.specs.Numbers.{i2b, i2s, i2c}
use Rattle.jvm_model.specs.{Classes.member, Linked.fits_int, Narrow.narrow_int}

-- what holds of each of these numbers holds of one of them
pub member_holds : (P : ℕ → Type 0) (xs : List ℕ) (u : ℕ) → AllByRecursion P xs → member u xs ≡ true → P u
member_holds P [] u a h = absurd (cc)
member_holds P (x ∷ xs) u a h = elim (or_cases (nat_eq u x) (member u xs) h) [ inl e ↦ subst P (sym (eqb-true u x e)) a.0 | inr m ↦ member_holds P xs u a.1 m ]

byte_fits : (n : ℤ) → FitsSigned w8 n → (int_le (negsuc 127) n && int_lt n (pos 128)) ≡ true
byte_fits (pos a) h = let q : a < 128 = omega (arith, ints) in lt-ltb a 128 q
byte_fits (negsuc a) h = let q : a ≤ 127 = omega (arith, ints) in let e = le-leb a 127 q in rw e refl

short_fits : (n : ℤ) → FitsSigned w16 n → (int_le (negsuc 32767) n && int_lt n (pos 32768)) ≡ true
short_fits (pos a) h = let q : a < 32768 = omega (arith, ints) in lt-ltb a 32768 q
short_fits (negsuc a) h = let q : a ≤ 32767 = omega (arith, ints) in let e = le-leb a 32767 q in rw e refl

remainder_fits : (n : ℤ) (d : ℕ) → 0 < d → (int_le (pos 0) (int_rem_euclid n (pos d)) && int_lt (int_rem_euclid n (pos d)) (pos d)) ≡ true
remainder_fits (pos a) d h = let q : a % d < d = omega arith in and_from _ _ (le-leb 0 (a % d) (omega arith)) (lt-ltb (a % d) d q)
remainder_fits (negsuc a) d h = let q : d - 1 - a % d < d = omega arith in and_from _ _ (le-leb 0 (d - 1 - a % d) (omega arith)) (lt-ltb (d - 1 - a % d) d q)

-- the first units of the descriptors of ints: B, C, I, S, Z
abbrev pub smalls : List ℕ
smalls = 66 ∷ 67 ∷ 73 ∷ 83 ∷ 90 ∷ []

pub narrowed_fits : (u : ℕ) (n : ℤ) → member u smalls ≡ true → fits_int u (narrow_int u n) ≡ true
unfolding i2b i2s i2c
narrowed_fits u n h = member_holds (λ v. fits_int v (narrow_int v n) ≡ true) smalls u
    (byte_fits (int_wrap w8 n) (SFits-int_wrap w8 n), (remainder_fits n 65536 (omega arith), (refl, (short_fits (int_wrap w16 n) (SFits-int_wrap w16 n), (remainder_fits n 2 (omega arith), tt))))) h
