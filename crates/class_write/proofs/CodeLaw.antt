-- A code is spelled by its spelling, and so is a Code attribute, no longer than it was.
use Rattle.std.proofs.Common.{◌≡◌, ℕ, zero, suc, ◌+◌, ◌/◌, ◌<◌, ◌≤◌, ◌^◌, cond, Bool, true, false, List, [], ◌∷◌, ◌++◌, length, replicate, Option, Some, None, refl, sym, ap, subst, ◌∙◌, arith, ltb, ◌&&◌}
use Rattle.std.specs.Prelude.{ℤ, codes}
use Rattle.std.specs.List.{flat_map}
use Rattle.std.specs.Int.{Width, w8, w16, w32, byte_len, byte_at, bytes_high_first, to_be_bytes}
use Rattle.std.proofs.lemmas.List.{length-append}
use Rattle.class_pool.specs.Grammar.{IsBytes, Sized}
use Rattle.code_decode.specs.declared.{instructions.RawOp.RawOp, decoding.Code.Code, opcodes.Shape.Shape}
use Rattle.code_decode.specs.declared.opcodes.Shape.TheVariants as shape
use Rattle.code_decode.specs.{Opcodes.shape_of, Opcodes.takes_local, Switches.padding, CodeGrammar.CodeText}
use Rattle.code_decode.specs.Spelling.{number_bytes, signed_bytes, offset_bytes, pair_bytes, one_bytes, two_bytes, table_bytes, lookup_bytes, args_bytes, shaped_bytes, wide_args_bytes, op_bytes, code_spelling}
use Rattle.code_decode.proofs.{SpellingSwitches.zeros_fit, RespelledLaw.code_respelled}
use Rattle.class_reader.specs.{declared.parts.CodePart.CodePart, Names.is_stack_map, Handlers.HandlersText, MapGrammar.MapText}
use Rattle.class_reader.specs.ClassGrammar.{RunText, part_of, PartText}
use Rattle.class_write.specs.Spelling.{short_bytes, listed_bytes, sized_bytes, handler_bytes, map_bytes, attribute_bytes, names_of, run_bytes, part_bytes}
use Rattle.class_write.proofs.PartLaw.{Slots, Shorter, shorter_same, named, attributes_again}
use Rattle.class_write.proofs.MapLaw.{map_same, handlers_same}

-- ---- what is written is bytes

joined_fit : (xs ys : List ℕ) → IsBytes xs → IsBytes ys → IsBytes (xs ++ ys)
joined_fit [] ys p q i = q i
joined_fit (x ∷ xs) ys p q zero = p 0
joined_fit (x ∷ xs) ys p q (suc i) = joined_fit xs ys (λ j. p (suc j)) q i

nothing_fits : IsBytes []
nothing_fits i = omega arith

flat_fits : {A : Type 0} (f : A → List ℕ) → ((x : A) → IsBytes (f x)) → (xs : List A) → IsBytes (flat_map f xs)
flat_fits f fits [] = nothing_fits
flat_fits f fits (x ∷ xs) = joined_fit (f x) (flat_map f xs) (fits x) (flat_fits f fits xs)

byte_fits : (k n : ℕ) → byte_at k n < 256
byte_fits zero n = omega arith
byte_fits (suc k) n = omega arith

high_fits : (k n : ℕ) → IsBytes (bytes_high_first k n)
high_fits zero n i = omega arith
high_fits (suc k) n zero = byte_fits k n
high_fits (suc k) n (suc i) = high_fits k n i

number_fits : (w : Width) (n : ℕ) → IsBytes (to_be_bytes w n)
number_fits w n = high_fits (byte_len w) n

one_fits : (view : ℤ → List ℕ) → ((z : ℤ) → IsBytes (view z)) → (args : List ℤ) → IsBytes (one_bytes view args)
one_fits view fits [] = nothing_fits
one_fits view fits (a ∷ []) = fits a
one_fits view fits (a ∷ b ∷ args) = nothing_fits

two_fits : (first second : ℤ → List ℕ) → ((z : ℤ) → IsBytes (first z)) → ((z : ℤ) → IsBytes (second z)) → (args : List ℤ) → IsBytes (two_bytes first second args)
two_fits first second p q [] = nothing_fits
two_fits first second p q (a ∷ []) = nothing_fits
two_fits first second p q (a ∷ b ∷ []) = joined_fit (first a) (second b) (p a) (q b)
two_fits first second p q (a ∷ b ∷ c ∷ args) = nothing_fits

signed_fits : (w : Width) (z : ℤ) → IsBytes (signed_bytes w z)
signed_fits w z = number_fits w _

offset_fits : (w : Width) (pc : ℕ) (z : ℤ) → IsBytes (offset_bytes w pc z)
offset_fits w pc z = number_fits w _

absolute_fits : (w : Width) (z : ℤ) → IsBytes (number_bytes w z)
absolute_fits w z = number_fits w _

counted_fits : (z : ℤ) → IsBytes (number_bytes w8 z ++ 0 ∷ [])
counted_fits z = joined_fit (number_bytes w8 z) (0 ∷ []) (absolute_fits w8 z) (zeros_fit 1)

pairs_fit : (pc : ℕ) (pairs : List ℤ) → IsBytes (pair_bytes pc pairs)
pairs_fit pc [] = nothing_fits
pairs_fit pc (key ∷ []) = nothing_fits
pairs_fit pc (key ∷ to ∷ pairs) = joined_fit (signed_bytes w32 key) (offset_bytes w32 pc to ++ pair_bytes pc pairs) (signed_fits w32 key) (joined_fit (offset_bytes w32 pc to) (pair_bytes pc pairs) (offset_fits w32 pc to) (pairs_fit pc pairs))

other_fits : (pc : ℕ) (other : ℤ) → IsBytes (replicate (padding pc) 0 ++ offset_bytes w32 pc other)
other_fits pc other = joined_fit (replicate (padding pc) 0) (offset_bytes w32 pc other) (zeros_fit (padding pc)) (offset_fits w32 pc other)

table_fits : (pc : ℕ) (args : List ℤ) → IsBytes (table_bytes pc args)
table_fits pc [] = nothing_fits
table_fits pc (a ∷ []) = nothing_fits
table_fits pc (a ∷ b ∷ []) = nothing_fits
table_fits pc (other ∷ low ∷ high ∷ places) =
    joined_fit (replicate (padding pc) 0 ++ offset_bytes w32 pc other) ((signed_bytes w32 low ++ signed_bytes w32 high) ++ flat_map (offset_bytes w32 pc) places) (other_fits pc other)
    (joined_fit (signed_bytes w32 low ++ signed_bytes w32 high) (flat_map (offset_bytes w32 pc) places) (joined_fit (signed_bytes w32 low) (signed_bytes w32 high) (signed_fits w32 low) (signed_fits w32 high)) (flat_fits (offset_bytes w32 pc) (offset_fits w32 pc) places))

lookup_fits : (pc : ℕ) (args : List ℤ) → IsBytes (lookup_bytes pc args)
lookup_fits pc [] = nothing_fits
lookup_fits pc (other ∷ pairs) =
    let count : List ℕ = to_be_bytes w32 (length pairs / 2) in
    joined_fit (replicate (padding pc) 0 ++ offset_bytes w32 pc other) (count ++ pair_bytes pc pairs) (other_fits pc other) (joined_fit count (pair_bytes pc pairs) (number_fits w32 (length pairs / 2)) (pairs_fit pc pairs))

args_fit : (pc : ℕ) (form : Shape) (args : List ℤ) → IsBytes (args_bytes pc form args)
args_fit pc shape.Plain args = nothing_fits
args_fit pc shape.Byte args = one_fits (signed_bytes w8) (signed_fits w8) args
args_fit pc shape.Short args = one_fits (signed_bytes w16) (signed_fits w16) args
args_fit pc shape.Local args = one_fits (number_bytes w8) (absolute_fits w8) args
args_fit pc shape.Increment args = two_fits (number_bytes w8) (signed_bytes w8) (absolute_fits w8) (signed_fits w8) args
args_fit pc (shape.Near constant) args = one_fits (number_bytes w8) (absolute_fits w8) args
args_fit pc (shape.Far constant) args = one_fits (number_bytes w16) (absolute_fits w16) args
args_fit pc (shape.Entry entry) args = one_fits (number_bytes w16) (absolute_fits w16) args
args_fit pc shape.Interface args = two_fits (number_bytes w16) (λ count. number_bytes w8 count ++ 0 ∷ []) (absolute_fits w16) counted_fits args
args_fit pc shape.Kind args = one_fits (number_bytes w8) (absolute_fits w8) args
args_fit pc shape.Dimensions args = two_fits (number_bytes w16) (number_bytes w8) (absolute_fits w16) (absolute_fits w8) args
args_fit pc shape.Branch args = one_fits (offset_bytes w16 pc) (offset_fits w16 pc) args
args_fit pc shape.FarBranch args = one_fits (offset_bytes w32 pc) (offset_fits w32 pc) args
args_fit pc shape.Table args = table_fits pc args
args_fit pc shape.Lookup args = lookup_fits pc args

shaped_fits : (pc : ℕ) (form : Option Shape) (args : List ℤ) → IsBytes (shaped_bytes pc form args)
shaped_fits pc None args = nothing_fits
shaped_fits pc (Some form) args = args_fit pc form args

choice_fits : (b : Bool) (xs ys : List ℕ) → IsBytes xs → IsBytes ys → IsBytes (cond b xs ys)
choice_fits true xs ys p q = p
choice_fits false xs ys p q = q

wide_fits : (opcode : ℕ) (args : List ℤ) → IsBytes (wide_args_bytes opcode args)
wide_fits opcode args = choice_fits (takes_local opcode) (one_bytes (number_bytes w16) args) (two_bytes (number_bytes w16) (signed_bytes w16) args) (one_fits (number_bytes w16) (absolute_fits w16) args)
    (two_fits (number_bytes w16) (signed_bytes w16) (absolute_fits w16) (signed_fits w16) args)

op_fits : (o : RawOp) → IsBytes (op_bytes o)
op_fits o =
    let wide : List ℕ = to_be_bytes w8 o.opcode ++ wide_args_bytes o.opcode o.args in
    let shaped : List ℕ = shaped_bytes o.pc (shape_of o.opcode) o.args in
    choice_fits o.wide (to_be_bytes w8 196 ++ wide) (to_be_bytes w8 o.opcode ++ shaped)
    (joined_fit (to_be_bytes w8 196) wide (number_fits w8 196) (joined_fit (to_be_bytes w8 o.opcode) (wide_args_bytes o.opcode o.args) (number_fits w8 o.opcode) (wide_fits o.opcode o.args)))
    (joined_fit (to_be_bytes w8 o.opcode) shaped (number_fits w8 o.opcode) (shaped_fits o.pc (shape_of o.opcode) o.args))

code_fits : (code : Code) → IsBytes (code_spelling code)
code_fits code = flat_fits op_bytes op_fits code.ops

-- ---- a Code attribute

-- the code of a Code attribute and its length
record Coded (slots : Slots) (text : List ℕ) (code : Code) : Type 0 where
  pub run : RunText (run_bytes code) (code_spelling code)
  pub spelled : CodeText slots (code_spelling code) code
  pub len : length (run_bytes code) ≡ length text

coded : (slots : Slots) (text run : List ℕ) (code : Code) → RunText text run → CodeText slots run code → Coded slots text code
coded slots text run code (n, one, more, e, s, (test, (same, long, fits))) c =
    let again : CodeText slots (code_spelling code) code = code_respelled slots run code c in
    let is : n ≡ code.length = sym long ∙ sym c.len in
    let few : code.length < 2 ^ 32 = omega (arith, is, s.1) in
    let right : (ltb 0 code.length && ltb code.length 65536) ≡ true = ap (λ k. ltb 0 k && ltb k 65536) (sym is) ∙ test in
    record {
      run = (code.length, to_be_bytes w32 code.length, code_spelling code, refl, (refl, few), (right, (refl, sym again.len, code_fits code)));
      spelled = again;
      len = omega (arith, ap length e, length-append one more, ap length s.0, ap length same, long, is, again.len);
    }

pub part_again : (slots : Slots) → length slots + 1 < 2 ^ 16 → (text : List ℕ) (p : CodePart) → PartText slots text p → Shorter (PartText slots) text (part_bytes (names_of slots) p) p
part_again slots few text p (stack, a, b, e, s, (locals, c, d, f, t, (run, g, h, k, r, (code, cs, (handlers, i, j, l, hs, (map, am, is)))))) =
    let u = coded slots g run code r cs in
    let same : i ≡ listed_bytes handler_bytes handlers = handlers_same slots code i handlers hs in
    let v = attributes_again is_stack_map (MapText slots) slots (names_of slots).stack_map map_bytes (named slots (codes "StackMapTable") few) (λ m x o. shorter_same (MapText slots) m (sized_bytes (map_bytes x)) x o (map_same slots m x o)) j map am in
    let made : CodePart = part_of stack locals code handlers map in
    let behind : List ℕ = listed_bytes handler_bytes handlers ++ attribute_bytes (names_of slots).stack_map map_bytes map in
    let spelled : PartText slots (part_bytes (names_of slots) made) made = (
      stack,
      short_bytes stack,
      short_bytes locals ++ (run_bytes code ++ behind),
      refl,
      (refl, s.1),
      (
        locals,
        short_bytes locals,
        run_bytes code ++ behind,
        refl,
        (refl, t.1),
        (
          code_spelling code,
          run_bytes code,
          behind,
          refl,
          u.run,
          (code, u.spelled, (handlers, listed_bytes handler_bytes handlers, attribute_bytes (names_of slots).stack_map map_bytes map, refl, subst (λ x. HandlersText slots code x handlers) same hs, (map, v.spelled, refl))),
        ),
      ),
    ) in
    let short : length (part_bytes (names_of slots) made) ≤ length text = omega (
      arith,
      ap length e,
      length-append a b,
      ap length s.0,
      ap length f,
      length-append c d,
      ap length t.0,
      ap length k,
      length-append g h,
      u.len,
      ap length l,
      length-append i j,
      ap length same,
      v.short,
      length-append (run_bytes code) behind,
      length-append (listed_bytes handler_bytes handlers) (attribute_bytes (names_of slots).stack_map map_bytes map),
    ) in
    subst (λ z. Shorter (PartText slots) text (part_bytes (names_of slots) z) z) (sym is) (record { spelled = spelled; short = short })

pub sized_part_again : (slots : Slots) → length slots + 1 < 2 ^ 16 → (text : List ℕ) (p : CodePart) → Sized (PartText slots) text p → Shorter (Sized (PartText slots)) text (sized_bytes (part_bytes (names_of slots) p)) p
sized_part_again slots few text p (content, e, lt, s) =
    let r = part_again slots few content p s in
    let now : List ℕ = part_bytes (names_of slots) p in
    record {
      spelled = (now, refl, omega (arith, lt, r.short), r.spelled);
      short = omega (arith, r.short, ap length e, length-append (to_be_bytes w32 (length content)) content, length-append (to_be_bytes w32 (length now)) now);
    }
