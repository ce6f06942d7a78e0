-- The first character of code units, and those after it.
use Rattle.std.proofs.Common.{◌≡◌, ℕ, ◌-◌, ◌<◌, ◌≤◌, Bool, true, false, cond, ◌&&◌, List, [], ◌∷◌, ◌++◌, length, get_or, take, drop, Option, Some, refl, sym, ap, ◌∙◌, arith}
use Rattle.std.specs.Prelude.{encode_utf8, unwrap_or, map}
use Rattle.std.specs.Str.{encode_utf8_all}
use Rattle.std.specs.Char.Utf16.{utf16_chars, is_high_surrogate, is_low_surrogate, surrogate_pair_char, lone_unit_char}
use Rattle.std.proofs.Math.Seq.{take-length}
use Rattle.et_base.specs.Quotes.{utf8_of}

-- all but the first
abbrev pub rest : List ℕ → List ℕ
rest us = take (length us - 1) (drop 1 us)

rest-cons : (u : ℕ) (us : List ℕ) → rest (u ∷ us) ≡ us
rest-cons u us = ap (λ n. take n us) {x = length (u ∷ us) - 1} {y = length us} (omega arith) ∙ take-length us

abbrev is_pair : ℕ → ℕ → Bool
is_pair u v = is_high_surrogate u && is_low_surrogate v

pair_chars : (u v : ℕ) (us : List ℕ) → is_pair u v ≡ true → utf16_chars (u ∷ v ∷ us) ≡ Some (surrogate_pair_char u v) ∷ utf16_chars us
unfolding utf16_chars
pair_chars u v us h = ap (λ b. cond b (Some (surrogate_pair_char u v) ∷ utf16_chars us) (lone_unit_char u ∷ utf16_chars (v ∷ us))) h

lone_chars : (u v : ℕ) (us : List ℕ) → is_pair u v ≡ false → utf16_chars (u ∷ v ∷ us) ≡ lone_unit_char u ∷ utf16_chars (v ∷ us)
unfolding utf16_chars
lone_chars u v us h = ap (λ b. cond b (Some (surrogate_pair_char u v) ∷ utf16_chars us) (lone_unit_char u ∷ utf16_chars (v ∷ us))) h

last_chars : (u : ℕ) → utf16_chars (u ∷ []) ≡ lone_unit_char u ∷ utf16_chars []
unfolding utf16_chars
last_chars u = refl

no_chars : utf16_chars [] ≡ []
unfolding utf16_chars
no_chars = refl

abbrev spelled : List (Option ℕ) → List ℕ
spelled cs = encode_utf8_all (map (λ o. unwrap_or o 63) cs)

pub utf8_of-nil : (us : List ℕ) → length us ≡ 0 → utf8_of us ≡ []
utf8_of-nil [] e = ap spelled no_chars
utf8_of-nil (u ∷ us) e = absurd (omega arith)

pub utf8_of-pair : (us : List ℕ) → 2 ≤ length us → is_pair (get_or us 0 0) (get_or (rest us) 0 0) ≡ true
    → utf8_of us ≡ encode_utf8 (surrogate_pair_char (get_or us 0 0) (get_or (rest us) 0 0)) ++ utf8_of (rest (rest us))
utf8_of-pair [] le pair = absurd (omega arith)
utf8_of-pair (u ∷ []) le pair = absurd (omega arith)
utf8_of-pair (u ∷ v ∷ us) le pair =
    let e : rest (u ∷ v ∷ us) ≡ v ∷ us = rest-cons u (v ∷ us) in
    let h : is_pair u v ≡ true = ap (λ r. is_pair u (get_or r 0 0)) (sym e) ∙ pair in
    ap spelled (pair_chars u v us h)
    ∙ ap (λ r. encode_utf8 (surrogate_pair_char u v) ++ utf8_of r) (sym (rest-cons v us))
    ∙ ap (λ r. encode_utf8 (surrogate_pair_char u (get_or r 0 0)) ++ utf8_of (rest r)) (sym e)

pub utf8_of-lone : (us : List ℕ) → 0 < length us → (2 ≤ length us → is_pair (get_or us 0 0) (get_or (rest us) 0 0) ≡ false)
    → utf8_of us ≡ encode_utf8 (unwrap_or (lone_unit_char (get_or us 0 0)) 63) ++ utf8_of (rest us)
utf8_of-lone [] some lone = absurd (omega arith)
utf8_of-lone (u ∷ []) some lone = ap spelled (last_chars u)
utf8_of-lone (u ∷ v ∷ us) some lone =
    let e : rest (u ∷ v ∷ us) ≡ v ∷ us = rest-cons u (v ∷ us) in
    let h : is_pair u v ≡ false = ap (λ r. is_pair u (get_or r 0 0)) (sym e) ∙ lone (omega arith) in
    ap spelled (lone_chars u v us h)
    ∙ ap (λ r. encode_utf8 (unwrap_or (lone_unit_char u) 63) ++ utf8_of r) (sym e)
