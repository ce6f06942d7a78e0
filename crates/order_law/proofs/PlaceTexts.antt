-- The text of a location is in the form of a record's.
use Rattle.std.proofs.Common.{◌≡◌, ℕ, zero, suc, ◌+◌, ◌/◌, ◌%◌, ◌^◌, ◌<◌, ◌≤◌, Bool, true, false, ◌&&◌, ◌||◌, ◌==◌, if◌then◌else◌, nat_lt, nat_le, List, [], ◌∷◌, ◌++◌, take, length, codes, decimal, refl, ◌∙◌, arith, inl, inr}
use Rattle.std.specs.{List.list_all, List.flat_map, Fmt.digit_glyph, Str.Parse.AllDigits}
use Rattle.std.proofs.lemmas.Bool.{cases_Bool, and_from, and_parts, or_cases, le-leb, leb-true, leb-false, ltb-true, ltb-false, eqb-true}
use Rattle.std.proofs.lemmas.{Fmt.decimal_is_IsNumeral, List.length-append, List.length-take-le, Str.Parse.digit_from_value, List.Folds.list_all-append}
use Rattle.jvm_model.specs.declared.{program.Program.Program, values.Location.Location}
use Rattle.jvm_model.specs.declared.values.Location.TheVariants as place
use Rattle.jvm_model.specs.{Classes.class_at, Classes.field_at, Texts.object_text, Texts.class_text, Texts.field_text, Texts.location_text}
use Rattle.et_base.specs.Quotes.{hex_digit, unit_escape, name_unit, name_of, quoted_unit, quoted_units, is_plain}
use Rattle.order_law.specs.{OwnRecord.cut, RecordForm.is_place_text}
use Rattle.order_law.specs.OwnForm.{are_code_units, HasCodeUnits, IsNumbered, IsShown, PlaceLaw}

abbrev printable : ℕ → Bool
printable b = nat_le 32 b && nat_le b 126

abbrev Prints : List ℕ → Type 0
Prints bs = list_all printable bs ≡ true

one_prints : (b : ℕ) → 32 ≤ b → b ≤ 126 → printable b ≡ true
one_prints b h k = and_from (nat_le 32 b) (nat_le b 126) (le-leb 32 b h) (le-leb b 126 k)

more_prints : (b : ℕ) (bs : List ℕ) → printable b ≡ true → Prints bs → Prints (b ∷ bs)
more_prints b bs h k = and_from (printable b) (list_all printable bs) h k

both_print : (bs cs : List ℕ) → Prints bs → Prints cs → Prints (bs ++ cs)
both_print bs cs h k = list_all-append printable bs cs ∙ and_from (list_all printable bs) (list_all printable cs) h k

take_prints : (n : ℕ) (bs : List ℕ) → Prints bs → Prints (take n bs)
take_prints (suc n) (b ∷ bs) h = let k = and_parts (printable b) (list_all printable bs) h in more_prints b (take n bs) k.0 (take_prints n bs k.1)
take_prints _ _ h = refl

-- ---- numbers

digits_print : (ds : List ℕ) → AllDigits 10 ds → Prints ds
digits_print [] h = refl
digits_print (d ∷ ds) h = more_prints d ds (one_prints d (omega (arith, digit_from_value d h.0)) (omega (arith, digit_from_value d h.0))) (digits_print ds h.1)

decimal_prints : (n : ℕ) → n < 2 ^ 64 → Prints (decimal n)
decimal_prints n h = digits_print (decimal n) (decimal_is_IsNumeral n h).0.1

object_prints : (x : ℕ × ℕ) → IsNumbered x → Prints (object_text x)
object_prints x h = both_print (decimal x.0) (58 ∷ decimal x.1) (decimal_prints x.0 h.0) (more_prints 58 (decimal x.1) refl (decimal_prints x.1 h.1))

-- ---- code units

hex_prints : (d : ℕ) → d < 16 → printable (digit_glyph false d) ≡ true
hex_prints d h = elim (cases_Bool (nat_lt d 10)) [
  | inl e ↦ let k = ltb-true d 10 e in rw e (one_prints (48 + d) (omega arith) (omega arith))
  | inr e ↦ let k = ltb-false d 10 e in rw e (one_prints (87 + d) (omega arith) (omega arith))
]

signs_print : (a b c d : ℕ) → a < 16 → b < 16 → c < 16 → d < 16 → Prints (92 ∷ 117 ∷ hex_digit a ∷ hex_digit b ∷ hex_digit c ∷ hex_digit d ∷ [])
signs_print a b c d h i j k =
    let l = more_prints (hex_digit d) [] (hex_prints d k) refl in
    let m = more_prints (hex_digit c) (hex_digit d ∷ []) (hex_prints c j) l in
    let n = more_prints (hex_digit b) (hex_digit c ∷ hex_digit d ∷ []) (hex_prints b i) m in
    more_prints (hex_digit a) (hex_digit b ∷ hex_digit c ∷ hex_digit d ∷ []) (hex_prints a h) n

escape_prints : (u : ℕ) → u < 2 ^ 16 → Prints (unit_escape u)
unfolding unit_escape
escape_prints u h = signs_print (u / 4096) (u / 256 % 16) (u / 16 % 16) (u % 16) (omega arith) (omega arith) (omega arith) (omega arith)

each_prints : (f : ℕ → List ℕ) → ((u : ℕ) → u < 2 ^ 16 → Prints (f u)) → (us : List ℕ) → are_code_units us ≡ true → Prints (flat_map f us)
each_prints f h [] e = refl
each_prints f h (u ∷ us) e =
    let k = and_parts (nat_lt u (2 ^ 16)) (are_code_units us) e in
    both_print (f u) (flat_map f us) (h u (ltb-true u (2 ^ 16) k.0)) (each_prints f h us k.1)

either : {P : Type 0} (a b : Bool) → (a ≡ true → P) → (b ≡ true → P) → (a || b) ≡ true → P
either a b f g e = elim (or_cases a b e) [ inl h ↦ f h | inr h ↦ g h ]

if_prints : (b : Bool) (xs ys : List ℕ) → (b ≡ true → Prints xs) → (b ≡ false → Prints ys) → Prints (if b then xs else ys)
if_prints true xs ys f g = f refl
if_prints false xs ys f g = g refl

range_prints : (a b u : ℕ) → 32 ≤ a → b ≤ 126 → (nat_le a u && nat_le u b) ≡ true → printable u ≡ true
range_prints a b u h k e =
    let f = and_parts (nat_le a u) (nat_le u b) e in
    let l = leb-true a u f.0 in
    let m = leb-true u b f.1 in
    one_prints u (omega arith) (omega arith)

sign_prints : (c u : ℕ) → 32 ≤ c → c ≤ 126 → (u == c) ≡ true → printable u ≡ true
sign_prints c u h k e = let q = eqb-true u c e in one_prints u (omega arith) (omega arith)

plain_prints : (u : ℕ) → is_plain u ≡ true → printable u ≡ true
plain_prints u e = either _ _ (either _ _ (either _ _ (either _ _ (either _ _ (either _ _ (either _ _ (range_prints 97 122 u (omega arith) (omega arith)) (range_prints 65 90 u (omega arith) (omega arith)))
    (range_prints 48 57 u (omega arith) (omega arith))) (sign_prints 36 u (omega arith) (omega arith))) (sign_prints 45 u (omega arith) (omega arith))) (sign_prints 60 u (omega arith) (omega arith)))
    (sign_prints 62 u (omega arith) (omega arith))) (sign_prints 95 u (omega arith) (omega arith)) e

name_prints : (u : ℕ) → u < 2 ^ 16 → Prints (name_unit u)
unfolding name_unit
name_prints u h = if_prints (is_plain u) _ _ (λ e. more_prints u [] (plain_prints u e) refl) (λ e. if_prints (u == 47) _ _ (λ f. refl) (λ f. escape_prints u h))

quoted_prints : (u : ℕ) → u < 2 ^ 16 → Prints (quoted_unit u)
unfolding quoted_unit
quoted_prints u h = if_prints (u == 34 || u == 92) _ _
    (λ e. more_prints 92 (u ∷ []) refl (more_prints u [] (either _ _ (sign_prints 34 u (omega arith) (omega arith)) (sign_prints 92 u (omega arith) (omega arith)) e) refl))
    (λ e. if_prints (u == 10) _ _ (λ f. refl) (λ f. if_prints (nat_le 32 u && nat_le u 126) _ _ (λ k. more_prints u [] k refl) (λ k. escape_prints u h)))

class_prints : (p : Program) (c : ℕ) → HasCodeUnits p → Prints (class_text p c)
class_prints p c n = each_prints name_unit name_prints (class_at p c).name (n.classes c)

field_prints : (p : Program) (f : ℕ) → HasCodeUnits p → Prints (field_text p f)
field_prints p f n = both_print (class_text p (field_at p f).class) (46 ∷ name_of (field_at p f).name) (class_prints p (field_at p f).class n)
    (more_prints 46 (name_of (field_at p f).name) refl (each_prints name_unit name_prints (field_at p f).name (n.fields f)))

units_print : (us : List ℕ) → are_code_units us ≡ true → Prints (quoted_units us)
units_print us e = more_prints 34 (flat_map quoted_unit us ++ 34 ∷ []) refl (both_print (flat_map quoted_unit us) (34 ∷ []) (each_prints quoted_unit quoted_prints us e) refl)

-- ---- the text of a location

location_prints : (p : Program) (by : ℕ → ℕ × ℕ) (L : Location) → HasCodeUnits p → IsShown by L → Prints (location_text p by L)
unfolding location_text
location_prints p by (place.Static f) n s = both_print (codes "static ") (field_text p f) refl (field_prints p f n)
location_prints p by (place.Init c) n s = both_print (codes "init ") (class_text p c) refl (class_prints p c n)
location_prints p by (place.Head o) n s = both_print (codes "head ") (object_text (by o)) refl (object_prints (by o) s)
location_prints p by (place.Field o f) n s =
    both_print (codes "field ") (object_text (by o) ++ 32 ∷ field_text p f) refl (both_print (object_text (by o)) (32 ∷ field_text p f) (object_prints (by o) s) (more_prints 32 (field_text p f) refl (field_prints p f n)))
location_prints p by (place.Elem o i) n s =
    both_print (codes "elem ") (object_text (by o) ++ 32 ∷ decimal i) refl (both_print (object_text (by o)) (32 ∷ decimal i) (object_prints (by o) s.0) (more_prints 32 (decimal i) refl (decimal_prints i s.1)))
location_prints p by (place.Text o) n s = both_print (codes "text ") (object_text (by o)) refl (object_prints (by o) s)
location_prints p by (place.File m) n s = both_print (codes "file ") (quoted_units m) refl (units_print m s)
location_prints p by (place.Prop m) n s = both_print (codes "prop ") (quoted_units m) refl (units_print m s)

more_than_none : (a b : List ℕ) → 0 < length a → 0 < length (a ++ b)
more_than_none a b h = let e = length-append a b in omega arith

location_some : (p : Program) (by : ℕ → ℕ × ℕ) (L : Location) → 0 < length (location_text p by L)
unfolding location_text
location_some p by (place.Static f) = more_than_none (codes "static ") _ (omega arith)
location_some p by (place.Init c) = more_than_none (codes "init ") _ (omega arith)
location_some p by (place.Head o) = more_than_none (codes "head ") _ (omega arith)
location_some p by (place.Field o f) = more_than_none (codes "field ") _ (omega arith)
location_some p by (place.Elem o i) = more_than_none (codes "elem ") _ (omega arith)
location_some p by (place.Text o) = more_than_none (codes "text ") _ (omega arith)
location_some p by (place.File m) = more_than_none (codes "file ") (quoted_units m) (omega arith)
location_some p by (place.Prop m) = more_than_none (codes "prop ") (quoted_units m) (omega arith)

cut_in_form : (t : List ℕ) → Prints t → 0 < length t → is_place_text (cut t) ≡ true
cut_in_form t h k = elim (cases_Bool (nat_le (length t) 200)) [
  | inl e ↦ let l = leb-true (length t) 200 e in rw e (and_from (nat_le 1 (length t)) (nat_le (length t) 203 && list_all printable t) (le-leb 1 (length t) (omega arith)) (and_from (nat_le (length t) 203) (list_all printable t) (le-leb (length t) 203 (omega arith)) h))
  | inr e ↦ let l = leb-false (length t) 200 e in
      let c = take 200 t ++ codes "..." in
      let m = length-append (take 200 t) (codes "...") in
      let n = length-take-le 200 t (omega arith) in
      rw e (and_from (nat_le 1 (length c)) (nat_le (length c) 203 && list_all printable c) (le-leb 1 (length c) (omega arith)) (and_from (nat_le (length c) 203) (list_all printable c) (le-leb (length c) 203 (omega arith)) (both_print (take 200 t) (codes "...") (take_prints 200 t h) refl)))
]

pub place_law : PlaceLaw
place_law p by L n s = cut_in_form (location_text p by L) (location_prints p by L n s) (location_some p by L)
