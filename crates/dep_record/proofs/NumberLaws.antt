-- Reading digits one by one, with a limit, gives their value where it is within the limit.
use Rattle.std.proofs.Common.{◌≡◌, ℕ, ◌+◌, ◌-◌, ◌*◌, ◌<◌, ◌≤◌, Bool, true, false, cond, ◌&&◌, nat_le, List, [], ◌∷◌, Option, Some, None, refl, arith}
use Rattle.std.specs.{Option.option_and_then, Char.is_ascii_digit, Char.digit_value, Str.all_ascii_digits, Str.Parse.digits_value_after}
use Rattle.std.proofs.lemmas.Bool.{le-leb, leb-true, leb-false, ltb-false}
use Rattle.dep_record.specs.Fields.{with_digit, digits_up_to}

-- the value after more digits, if it is never above the limit
abbrev pub digits_after : ℕ → ℕ → List ℕ → Option ℕ
digits_after most value [] = Some value
digits_after most value (b ∷ bs) = option_and_then (λ v. digits_after most v bs) (with_digit most value b)

abbrev within : ℕ → ℕ → List ℕ → Option ℕ
within most value bs = cond (all_ascii_digits bs && nat_le (digits_value_after 10 value bs) most) (Some (digits_value_after 10 value bs)) None

pub value_grows : (n : ℕ) (bs : List ℕ) → n ≤ digits_value_after 10 n bs
value_grows n [] = omega arith
value_grows n (b ∷ bs) = let h = value_grows (n * 10 + digit_value b) bs in omega (arith, h)

pub digit_is : (b : ℕ) → is_ascii_digit b ≡ true → digit_value b ≡ b - 48
digit_is b h = grind arith

past : (most n : ℕ) (bs : List ℕ) → most < n → within most n bs ≡ None
past most n bs h = let g = value_grows n bs in grind (arith, ltb-false)

step : (most n b : ℕ) (bs : List ℕ) (digit fits : Bool) → is_ascii_digit b ≡ digit → nat_le (n * 10 + digit_value b) most ≡ fits → ((m : ℕ) → m ≤ most → digits_after most m bs ≡ within most m bs)
    → digits_after most n (b ∷ bs) ≡ within most n (b ∷ bs)
step most n b bs false fits d f more = cc
step most n b bs true true d f more = let e = digit_is b d in let m = more (n * 10 + digit_value b) (leb-true _ _ f) in cc
step most n b bs true false d f more = let e = digit_is b d in let m = past most (n * 10 + digit_value b) bs (leb-false _ _ f) in cc

pub digits_after_is : (most : ℕ) (bs : List ℕ) (n : ℕ) → n ≤ most → digits_after most n bs ≡ within most n bs
digits_after_is most [] n h = rw le-leb refl
digits_after_is most (b ∷ bs) n h = step most n b bs (is_ascii_digit b) (nat_le (n * 10 + digit_value b) most) refl refl (digits_after_is most bs)

pub digits_by_steps : (most : ℕ) (bs : List ℕ) → digits_after most 0 bs ≡ digits_up_to most bs
unfolding digits_up_to
digits_by_steps most bs = digits_after_is most bs 0 (omega arith)
