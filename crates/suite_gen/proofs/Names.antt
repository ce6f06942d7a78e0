-- Names of a letter and a number, as pool entries.
use Rattle.std.proofs.Common.{◌≡◌, ℕ, ◌<◌, ◌≤◌, ◌^◌, List, [], ◌∷◌, ◌++◌, length, decimal, refl, ap, ◌∙◌, arith}
use Rattle.std.specs.{Str.Parse.AllDigits, Int.w16, Int.to_be_bytes}
use Rattle.std.proofs.lemmas.{Bool.and_from, Bool.le-leb, Bool.lt-ltb, Fmt.decimal_is_IsNumeral, Str.Parse.digit_from_value}
use Rattle.et_base.specs.Utf.{utf, group}
use Rattle.class_pool.specs.{declared.pool.Entry.TheVariants.Utf8, PoolGrammar.entry_bytes}
use Rattle.suite_gen.specs.Bytes.{name_bytes}

one_byte : (u : ℕ) → 1 ≤ u → u < 128 → group u ≡ u ∷ []
unfolding group
one_byte u some few = rw (and_from _ _ (le-leb 1 u some) (lt-ltb u 128 few)) refl

digits_plain : (ds : List ℕ) → AllDigits 10 ds → utf ds ≡ ds
digits_plain [] h = refl
digits_plain (d ∷ ds) h = ap (λ (l : List ℕ). l ++ utf ds) (one_byte d (omega (arith, digit_from_value d h.0)) (omega (arith, digit_from_value d h.0))) ∙ ap (λ (l : List ℕ). d ∷ l) (digits_plain ds h.1)

-- the entry of such a name
pub name_entry : (letter n : ℕ) → 1 ≤ letter → letter < 128 → n < 2 ^ 64 → entry_bytes (Utf8 (letter ∷ decimal n)) ≡ name_bytes letter n
name_entry letter n some few small =
    ap (λ (l : List ℕ). 1 ∷ to_be_bytes w16 (length l) ++ l) (ap (λ (l : List ℕ). l ++ utf (decimal n)) (one_byte letter some few) ∙ ap (λ (l : List ℕ). letter ∷ l) (digits_plain (decimal n) (decimal_is_IsNumeral n small).0.1))
