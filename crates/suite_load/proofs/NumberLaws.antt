-- What a budget can be.
use Rattle.std.proofs.Common.{◌≡◌, ℕ, ◌+◌, ◌-◌, ◌*◌, ◌<◌, ◌≤◌, true, false, eqb, List, [], ◌∷◌, length, slice_index, Some, arith}
use Rattle.std.specs.{Char.is_ascii_digit, Char.digit_value, Str.all_ascii_digits, Str.Parse.digits_value}
use Rattle.std.proofs.lemmas.{Bool.leb-true, Bool.and_parts, Bool.or_parts, Option.cond_some, Bool.Decides.nat_tests}
use Rattle.dep_record.specs.Fields.{digits_up_to, number_up_to}
use Rattle.dep_record.proofs.{FieldLaws.none_chosen, NumberLaws.value_grows, NumberLaws.digit_is}
use Rattle.suite_load.specs.NumberForms.{budget_of}

-- digits that don't begin with a zero are more than 0
first_counts : (bytes : List ℕ) → eqb (length bytes) 0 ≡ false → eqb (slice_index bytes 0) 48 ≡ false → all_ascii_digits bytes ≡ true → 0 < digits_value 10 bytes
first_counts [] some first digits = absurd cc
first_counts (b ∷ bs) some first digits =
    let d : is_ascii_digit b ≡ true = (and_parts _ _ digits).0 in
    let e = digit_is b d in
    let low : 48 < b = grind (arith, nat_tests) in
    let g = value_grows (0 * 10 + digit_value b) bs in
    omega arith

pub budget_bounds : (bytes : List ℕ) (units : ℕ) → budget_of bytes ≡ Some units → (0 < units) × (units ≤ 67108864)
unfolding budget_of number_up_to digits_up_to
budget_bounds bytes units h =
    let first = none_chosen (eqb (slice_index bytes 0) 48) _ units h in
    let whole = none_chosen _ _ units first.1 in
    let digits = cond_some _ (digits_value 10 bytes) units whole.1 in
    let each = and_parts _ _ digits.0 in
    let some = or_parts _ _ whole.0 in
    let low = first_counts bytes some.0 first.0 each.0 in
    let high = leb-true _ _ each.1 in
    (omega (arith, digits.1), omega (arith, digits.1))
