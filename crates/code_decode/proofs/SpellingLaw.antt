-- The spelling of a code that was taken from bytes spells that code: it differs from those bytes in padding alone.
use Rattle.std.proofs.Common.{◌≡◌, ℕ, ◌*◌, ◌^◌, ◌<◌, Bool, true, false, cond, ltb, ◌&&◌, List, [], ◌∷◌, ◌++◌, Option, Some, refl, sym, ap, ◌∙◌, arith}
use Rattle.std.specs.Prelude.{ℤ, pos, negsuc, ◌+ℤ◌, ◌-ℤ◌}
use Rattle.std.specs.Int.{Width, w8, w16, w32, byte_len, to_be_bytes, cast_signed, cast_unsigned}
use Rattle.std.proofs.lemmas.{Bool.eqb-true, Bool.and_parts, Int.ints, Int.of_z-to_z, List.append-nil}
use Rattle.class_pool.specs.declared.pool.Entry.{Entry}
use Rattle.code_decode.specs.{declared.judging.Fit.Fit, Place.place, Place.target, Targets.leads}
use Rattle.code_decode.specs.declared.opcodes.Shape.TheVariants as shape
use Rattle.code_decode.specs.CodeGrammar.{OneText, IncrementText, FittingText, InterfaceText, DimensionsText}
use Rattle.code_decode.specs.Spelling.{number_bytes, signed_bytes, offset_bytes, one_bytes, two_bytes}

-- ---- numbers and places

abbrev Turns : Width → Type 0
Turns w = (n : ℕ) → n < 2 ^ (8 * byte_len w) → cast_unsigned w (cast_signed w n) ≡ n

pub turns8 : Turns w8
turns8 n lt = of_z-to_z w8 n lt

pub turns16 : Turns w16
turns16 n lt = of_z-to_z w16 n lt

pub turns32 : Turns w32
turns32 n lt = of_z-to_z w32 n lt

-- a place inside of the code
abbrev pub is_inside : ℤ → Bool
is_inside (pos n) = true
is_inside (negsuc n) = false

outside : {X : Type 0} (n : ℕ) (z : ℤ) → negsuc n ≡ z → is_inside z ≡ true → X
outside n z e inside = let no : false ≡ true = ap is_inside e ∙ inside in absurd cc

place_back : (total : ℕ) (to z : ℤ) → place total to ≡ z → is_inside z ≡ true → z ≡ to
place_back total (pos k) z e inside = elim (ltb k total) as (λ b. cond b (pos k) (negsuc 0) ≡ z → z ≡ pos k) [
  | true ↦ λ f. sym f
  | false ↦ λ f. outside 0 z f inside
] e
place_back total (negsuc k) z e inside = outside 0 z e inside

minus_back : (a s z : ℤ) → z ≡ a +ℤ s → z -ℤ a ≡ s
minus_back a s z e = omega (arith, ints)

pub signed_same : (w : Width) (n : ℕ) → Turns w → n < 2 ^ (8 * byte_len w) → to_be_bytes w n ≡ signed_bytes w (cast_signed w n)
signed_same w n turns lt = ap (to_be_bytes w) (sym (turns n lt))

pub offset_same : (w : Width) (total pc n : ℕ) (z : ℤ) → Turns w → n < 2 ^ (8 * byte_len w) → z ≡ target total pc (cast_signed w n) → is_inside z ≡ true → to_be_bytes w n ≡ offset_bytes w pc z
offset_same w total pc n z turns lt e inside =
    let d : z -ℤ pos pc ≡ cast_signed w n = minus_back (pos pc) (cast_signed w n) z (place_back total (pos pc +ℤ cast_signed w n) z (sym e) inside) in
    ap (to_be_bytes w) (sym (turns n lt) ∙ ap (cast_unsigned w) (sym d))

-- ---- operands of one number or two

pub one_same : (w : Width) (view : ℕ → ℤ) (back : ℤ → List ℕ) → ((n : ℕ) → n < 2 ^ (8 * byte_len w) → to_be_bytes w n ≡ back (view n)) → (text : List ℕ) (args : List ℤ) → OneText w view text args → text ≡ one_bytes back args
one_same w view back same text args (n, s, e) = s.0 ∙ same n s.1 ∙ ap (one_bytes back) (sym e)

pub branch_same : (w : Width) (total pc : ℕ) → Turns w → (text : List ℕ) (args : List ℤ) → OneText w (λ n. target total pc (cast_signed w n)) text args → leads (Some shape.Branch) is_inside args ≡ true → text ≡ one_bytes (offset_bytes w pc) args
branch_same w total pc turns text args (n, s, e) inside =
    let z = target total pc (cast_signed w n) in
    let h : (is_inside z && true) ≡ true = ap (leads (Some shape.Branch) is_inside) (sym e) ∙ inside in
    s.0 ∙ offset_same w total pc n z turns s.1 refl (and_parts (is_inside z) true h).0 ∙ ap (one_bytes (offset_bytes w pc)) (sym e)

pub increment_same : (w : Width) → Turns w → (text : List ℕ) (args : List ℤ) → IncrementText w text args → text ≡ two_bytes (number_bytes w) (signed_bytes w) args
increment_same w turns text args (local, one, more, e, s, (by, t, is)) =
    e ∙ ap (λ o. o ++ more) s.0 ∙ ap (λ m. to_be_bytes w local ++ m) (t.0 ∙ signed_same w by turns t.1) ∙ ap (two_bytes (number_bytes w) (signed_bytes w)) (sym is)

pub fitting_same : (w : Width) (fits : ℕ → Fit) (text : List ℕ) (args : List ℤ) → FittingText w fits text args → text ≡ one_bytes (number_bytes w) args
fitting_same w fits text args (n, one, more, e, s, (right, (none, is))) =
    e ∙ ap (λ m. one ++ m) none ∙ append-nil one ∙ s.0 ∙ ap (one_bytes (number_bytes w)) (sym is)

pub interface_same : (slots : List (Option Entry)) (text : List ℕ) (args : List ℤ) → InterfaceText slots text args → text ≡ two_bytes (number_bytes w16) (λ count. number_bytes w8 count ++ 0 ∷ []) args
interface_same slots text args (n, one, more, e, s, (count, two, rest, f, t, (last, three, end, g, u, (right, (fits, (none, is)))))) =
    let nothing : last ≡ 0 = eqb-true _ _ (and_parts _ _ fits).1 in
    let third : rest ≡ 0 ∷ [] = g ∙ ap (λ m. three ++ m) none ∙ append-nil three ∙ u.0 ∙ ap (to_be_bytes w8) nothing in
    e ∙ ap (λ o. o ++ more) s.0 ∙ ap (λ m. to_be_bytes w16 n ++ m) (f ∙ ap (λ o. o ++ rest) t.0 ∙ ap (λ m. to_be_bytes w8 count ++ m) third) ∙ ap (two_bytes (number_bytes w16) (λ count. number_bytes w8 count ++ 0 ∷ [])) (sym is)

pub dimensions_same : (slots : List (Option Entry)) (text : List ℕ) (args : List ℤ) → DimensionsText slots text args → text ≡ two_bytes (number_bytes w16) (number_bytes w8) args
dimensions_same slots text args (n, one, more, e, s, (count, two, rest, f, t, (right, (fits, (none, is))))) =
    e ∙ ap (λ o. o ++ more) s.0 ∙ ap (λ m. to_be_bytes w16 n ++ m) (f ∙ ap (λ m. two ++ m) none ∙ append-nil two ∙ t.0) ∙ ap (two_bytes (number_bytes w16) (number_bytes w8)) (sym is)
