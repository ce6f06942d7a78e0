-- The code of the tests is read as it is written.
use Rattle.std.proofs.Common.{◌≡◌, ℕ, zero, suc, ◌<◌, ◌≤◌, Bool, true, false, cond, pos, List, [], ◌∷◌, ◌++◌, unwrap_or, Some, None, refl, sym, ap, ◌∙◌, arith}
use Rattle.std.specs.Int.{w16, w32, byte_at, to_be_bytes, cast_signed}
use Rattle.std.proofs.lemmas.{Bool.lt-ltb, Bool.and_from, Int.to_z-of_z, List.length-append}
use Rattle.class_pool.specs.declared.pool.Entry.TheVariants.{Utf8, Class}
use Rattle.class_pool.specs.{Pool.entry_of, Pool.text_of, Pool.class_name_of, Grammar.IsBytes, Grammar.Sized}
use Rattle.code_decode.specs.{declared.decoding.Code.Code, CodeGrammar.is_right, CodeGrammar.OpText, CodeGrammar.CodeText, Instructions.op}
use Rattle.code_decode.specs.declared.opcodes.Named.TheVariants as named
use Rattle.code_decode.specs.{Judging.array_fit, Judging.named_fit, Opcodes.shape_of, Spelling.code_spelling}
use Rattle.class_reader.specs.ClassGrammar.{part_of, PartText}
use Rattle.class_write.specs.{declared.names.Names.Names, Spelling.short_bytes, Spelling.sized_bytes, Spelling.run_bytes, Spelling.part_bytes}
use Rattle.suite_gen.specs.Generated.{group_of, group_count, field_entry, print_entry, setting, adding, printing, code_of}
use Rattle.generated_law.proofs.Pool.{Slots, Holds}

-- ---- bytes

nothing_fits : IsBytes []
nothing_fits i = omega arith

more_fits : (b : ℕ) (bs : List ℕ) → b < 256 → IsBytes bs → IsBytes (b ∷ bs)
more_fits b bs small h zero = small
more_fits b bs small h (suc i) = h i

short_fits : (n : ℕ) (bs : List ℕ) → IsBytes bs → IsBytes (short_bytes n ++ bs)
short_fits n bs h = more_fits (byte_at 1 n) (byte_at 0 n ∷ bs) (omega arith) (more_fits (byte_at 0 n) bs (omega arith) h)

-- ---- instructions

sipush_text : (s : Slots) (total pc i : ℕ) → i ≤ 1024 → OpText s total pc (17 ∷ short_bytes i) (op pc 17 false (pos i ∷ []))
unfolding shape_of
sipush_text s total pc i few =
    let signed : cast_signed w16 i ≡ pos i = to_z-of_z w16 (pos i) (omega (arith, few)) in
    (17, 17 ∷ [], short_bytes i, refl, (refl, omega arith), (pos i ∷ [], (i, (refl, omega (arith, few)), ap (λ z. z ∷ []) (sym signed)), refl))

-- an instruction without operands
iadd_text : (s : Slots) (total pc : ℕ) → OpText s total pc (96 ∷ []) (op pc 96 false [])
unfolding shape_of
iadd_text s total pc = (96, 96 ∷ [], [], refl, (refl, omega arith), ([], (refl, refl), refl))

return_text : (s : Slots) (total pc : ℕ) → OpText s total pc (177 ∷ []) (op pc 177 false [])
unfolding shape_of
return_text s total pc = (177, 177 ∷ [], [], refl, (refl, omega arith), ([], (refl, refl), refl))

-- a member of a class that is no array
member_right : (s : Slots) (class name : ℕ) (units : List ℕ) → entry_of s class ≡ Some (Class name) → entry_of s name ≡ Some (Utf8 units) → array_fit (unwrap_or (class_name_of s (entry_of s class)) []) ≡ array_fit units
member_right s class name units e f = ap (λ o. array_fit (unwrap_or (class_name_of s o) [])) e ∙ ap (λ o. array_fit (unwrap_or (text_of o) [])) f

field_right : (k : ℕ) (s : Slots) → Holds k s → (g : ℕ) → g < group_count k → is_right (named_fit named.Field s (entry_of s (field_entry g))) ≡ true
field_right k s h g few = ap (λ o. is_right (named_fit named.Field s o)) (h.field g few) ∙ ap is_right (member_right s 2 1 _ h.own_class h.own)

print_right : (k : ℕ) (s : Slots) → Holds k s → is_right (named_fit named.Direct s (entry_of s print_entry)) ≡ true
print_right k s h = ap (λ o. is_right (named_fit named.Direct s o)) h.print_method ∙ ap is_right (member_right s 9 8 _ h.env_class h.env)

get_text : (s : Slots) (total pc e : ℕ) → e < 65536 → is_right (named_fit named.Field s (entry_of s e)) ≡ true → OpText s total pc (178 ∷ short_bytes e) (op pc 178 false (pos e ∷ []))
unfolding shape_of
get_text s total pc e few right = (178, 178 ∷ [], short_bytes e, refl, (refl, omega arith), (pos e ∷ [], (e, short_bytes e, [], refl, (refl, omega (arith, few)), (right, (refl, refl))), refl))

put_text : (s : Slots) (total pc e : ℕ) → e < 65536 → is_right (named_fit named.Field s (entry_of s e)) ≡ true → OpText s total pc (179 ∷ short_bytes e) (op pc 179 false (pos e ∷ []))
unfolding shape_of
put_text s total pc e few right = (179, 179 ∷ [], short_bytes e, refl, (refl, omega arith), (pos e ∷ [], (e, short_bytes e, [], refl, (refl, omega (arith, few)), (right, (refl, refl))), refl))

call_text : (s : Slots) (total pc e : ℕ) → e < 65536 → is_right (named_fit named.Direct s (entry_of s e)) ≡ true → OpText s total pc (184 ∷ short_bytes e) (op pc 184 false (pos e ∷ []))
unfolding shape_of
call_text s total pc e few right = (184, 184 ∷ [], short_bytes e, refl, (refl, omega arith), (pos e ∷ [], (e, short_bytes e, [], refl, (refl, omega (arith, few)), (right, (refl, refl))), refl))

-- ---- the three bodies

-- Code that its bytes spell, of at most a hundred bytes.
record IsRead (s : Slots) (code : Code) : Type 0 where
  pub some : 0 < code.length
  pub few : code.length ≤ 100
  pub bytes : IsBytes (code_spelling code)
  pub text : CodeText s (code_spelling code) code

setting_read : (k : ℕ) (s : Slots) → Holds k s → (i : ℕ) → i ≤ 1024 → group_of i < group_count k → group_of i ≤ 1024 → IsRead s (setting i).code
unfolding shape_of
setting_read k s h i few group small =
    let e : ℕ = field_entry (group_of i) in
    let back : List ℕ = 177 ∷ [] in
    record {
      some = omega arith;
      few = omega arith;
      bytes = more_fits 17 (short_bytes i ++ (179 ∷ short_bytes e ++ back)) (omega arith) (short_fits i (179 ∷ short_bytes e ++ back) (more_fits 179 (short_bytes e ++ back) (omega arith) (short_fits e back (more_fits 177 [] (omega arith) nothing_fits))));
      text = record {
        len = refl;
        instructions = (17 ∷ short_bytes i, 179 ∷ short_bytes e ++ back, refl, sipush_text s 7 0 i few, (179 ∷ short_bytes e, back, refl, put_text s 7 3 e (omega (arith, small)) (field_right k s h (group_of i) group), (back, [], refl, return_text s 7 6, refl)));
        targets = (refl, (refl, (refl, tt)));
      };
    }

printing_read : (k : ℕ) (s : Slots) → Holds k s → (i : ℕ) → group_of i < group_count k → group_of i ≤ 1024 → IsRead s (printing i).code
unfolding shape_of
printing_read k s h i group small =
    let e : ℕ = field_entry (group_of i) in
    let back : List ℕ = 177 ∷ [] in
    record {
      some = omega arith;
      few = omega arith;
      bytes = more_fits 178 (short_bytes e ++ (184 ∷ short_bytes 13 ++ back)) (omega arith) (short_fits e (184 ∷ short_bytes 13 ++ back) (more_fits 184 (short_bytes 13 ++ back) (omega arith) (short_fits 13 back (more_fits 177 [] (omega arith) nothing_fits))));
      text = record {
        len = refl;
        instructions = (178 ∷ short_bytes e, 184 ∷ short_bytes 13 ++ back, refl, get_text s 7 0 e (omega (arith, small)) (field_right k s h (group_of i) group), (184 ∷ short_bytes 13, back, refl, call_text s 7 3 13 (omega arith) (print_right k s h), (back, [], refl, return_text s 7 6, refl)));
        targets = (refl, (refl, (refl, tt)));
      };
    }

adding_read : (k : ℕ) (s : Slots) → Holds k s → (i : ℕ) → i ≤ 1024 → group_of i < group_count k → group_of i ≤ 1024 → IsRead s (adding i).code
unfolding shape_of
adding_read k s h i few group small =
    let e : ℕ = field_entry (group_of i) in
    let right = field_right k s h (group_of i) group in
    let back : List ℕ = 177 ∷ [] in
    let put : List ℕ = 179 ∷ short_bytes e ++ back in
    record {
      some = omega arith;
      few = omega arith;
      bytes = more_fits 178 (short_bytes e ++ (17 ∷ short_bytes i ++ (96 ∷ put))) (omega arith) (short_fits e (17 ∷ short_bytes i ++ (96 ∷ put))
          (more_fits 17 (short_bytes i ++ (96 ∷ put)) (omega arith) (short_fits i (96 ∷ put) (more_fits 96 put (omega arith) (more_fits 179 (short_bytes e ++ back) (omega arith) (short_fits e back (more_fits 177 [] (omega arith) nothing_fits)))))));
      text = record {
        len = refl;
        instructions = (
          178 ∷ short_bytes e,
          17 ∷ short_bytes i ++ (96 ∷ put),
          refl,
          get_text s 11 0 e (omega (arith, small)) right,
          (17 ∷ short_bytes i, 96 ∷ put, refl, sipush_text s 11 3 i few, (96 ∷ [], put, refl, iadd_text s 11 6, (179 ∷ short_bytes e, back, refl, put_text s 11 7 e (omega (arith, small)) right, (back, [], refl, return_text s 11 10, refl)))),
        );
        targets = (refl, (refl, (refl, (refl, (refl, tt)))));
      };
    }

-- ---- the Code attribute

part_text : (s : Slots) (names : Names) (stack : ℕ) (code : Code) → stack ≤ 2 → IsRead s code → PartText s (part_bytes names (part_of stack 0 code [] None)) (part_of stack 0 code [] None)
part_text s names stack code low h =
    let run = code_spelling code in
    let ends = short_bytes 0 ++ short_bytes 0 in
    let fits = and_from _ _ (lt-ltb 0 code.length h.some) (lt-ltb code.length 65536 (omega (arith, h.few))) in (
      stack,
      short_bytes stack,
      short_bytes 0 ++ (run_bytes code ++ ends),
      refl,
      (refl, omega (arith, low)),
      (
        0,
        short_bytes 0,
        run_bytes code ++ ends,
        refl,
        (refl, omega arith),
        (
          run,
          run_bytes code,
          ends,
          refl,
          (code.length, to_be_bytes w32 code.length, run, refl, (refl, omega (arith, h.few)), (fits, (refl, sym h.text.len, h.bytes))),
          (code, h.text, ([], short_bytes 0, short_bytes 0, refl, (0, short_bytes 0, [], refl, (refl, omega arith), ([], refl, refl, refl)), (None, (0, short_bytes 0, [], refl, (refl, omega arith), (refl, refl)), refl))),
        ),
      ),
    )

sized_part : (s : Slots) (names : Names) (stack : ℕ) (code : Code) → stack ≤ 2 → IsRead s code → Sized (PartText s) (sized_bytes (part_bytes names (part_of stack 0 code [] None))) (part_of stack 0 code [] None)
sized_part s names stack code low h =
    let content = part_bytes names (part_of stack 0 code [] None) in
    (content, refl, omega (arith, length-append (code_spelling code) (short_bytes 0 ++ short_bytes 0), h.text.len, h.few), part_text s names stack code low h)

by_place : (k : ℕ) (s : Slots) (names : Names) → Holds k s → (i : ℕ) → i ≤ 1024 → group_of i < group_count k → group_of i ≤ 1024 → (first third : Bool)
    → Sized (PartText s) (sized_bytes (part_bytes names (cond first (setting i) (cond third (adding i) (printing i))))) (cond first (setting i) (cond third (adding i) (printing i)))
by_place k s names h i few group small true third = sized_part s names 1 (setting i).code (omega arith) (setting_read k s h i few group small)
by_place k s names h i few group small false true = sized_part s names 2 (adding i).code (omega arith) (adding_read k s h i few group small)
by_place k s names h i few group small false false = sized_part s names 1 (printing i).code (omega arith) (printing_read k s h i group small)

-- the code of test i is spelled so
pub code_text : (k : ℕ) (s : Slots) (names : Names) → Holds k s → (i : ℕ) → 1 ≤ i → i ≤ k → k ≤ 1024 → Sized (PartText s) (sized_bytes (part_bytes names (code_of i))) (code_of i)
code_text k s names h i low high few = by_place k s names h i (omega (arith, high, few)) (omega (arith, low, high)) (omega (arith, high, few)) _ _
