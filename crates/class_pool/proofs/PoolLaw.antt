-- The pool: what is read is spelled so, and the other way.
use Rattle.std.proofs.Common.{◌≡◌, ℕ, zero, suc, ◌-◌, ◌^◌, ◌<◌, true, false, cond, eqb, ltb, ◌&&◌, List, [], ◌∷◌, ◌++◌, length, Option, Some, None, Result, Ok, Err, refl, sym, ap, subst, ◌∙◌, arith, lit<, All}
use Rattle.std.specs.Int.{w8, w16, w32, w64, to_be_bytes, cast_unsigned}
use Rattle.std.proofs.lemmas.{Bool.eqb-true, Bool.ltb-true, Bool.lt-ltb, Bool.and_parts, List.append-nil}
use Rattle.std.proofs.lemmas.List.Elements.{All-nil, All-head, All-tail, All-cons}
use Rattle.et_base.specs.{Utf.utf, Utf.IsUnits, UtfReading.units_read, Answers.◌>>=◌}
use Rattle.et_base.proofs.UtfLaws.{units_read-utf, spells_from_read, utf_bytes, IsByte}
use Rattle.class_pool.specs.declared.fault.Fault.{Fault, TheVariants.BadTag, TheVariants.BadIndex, TheVariants.BadDescriptor}
use Rattle.class_pool.specs.{declared.pool.Entry.Entry, Reading.number_at, Reading.run_at}
use Rattle.class_pool.specs.declared.pool.Entry.TheVariants.{Utf8, Integer, Float, Long, Double, Class, Str, Field, Method, InterfaceMethod, NameAndType, MethodHandle, MethodType, InvokeDynamic}
use Rattle.class_pool.specs.Pool.{units_or, text_at, single_at, twin_at, handle_at, twins_at, singles_at, numbers_at, body_at, entry_at, slot_by, slot_at, is_second, is_wide, slot_len, slots_at, wrong_index, wrong_name, found_at, pass, no_place, indices_pass, names_pass, pool_at}
use Rattle.class_pool.specs.Grammar.{IsBytes, Nothing, Then, Mapped, Never, Number, Signed, Run, Counted, Joined}
use Rattle.class_pool.specs.PoolGrammar.{entry_bytes, EntryFits, EntryText, SlotText, IsSound, PoolText}
use Rattle.class_pool.proofs.Laws.{reads_8, reads_16, reads_32, reads_64, reads_signed_as, wide32, wide64, reads_run_then, chosen, bind_ok, ok_is, Taken, Reads, reads_nothing, reads_then, reads_mapped, reads_if, reads_never, reads_as, reads_counted}

-- ---- texts

units_ok : (left : ℕ) (run units : List ℕ) (r : Result (List ℕ) ℕ) → units_read run ≡ r → units_or left r ≡ Ok units → units_read run ≡ Ok units
units_ok left run units (Ok us) e h = e ∙ ap Ok (ok_is us units h)
units_ok left run units (Err at) e h = absurd cc

-- the units of a run that was read before
abbrev pub Units : List ℕ → List ℕ → Entry → Type 0
Units run text y = (text ≡ []) × (us : List ℕ) × (run ≡ utf us) × IsUnits us × (y ≡ Utf8 us)

pub reads_units : (left : ℕ) (run : List ℕ) → Reads (Units run) (λ bytes. units_or left (units_read run) >>= λ us. Ok (Utf8 us, bytes))
reads_units left run = record {
  takes = λ bytes y fits e.
      let a = bind_ok (units_or left (units_read run)) (λ us. Ok (Utf8 us, bytes)) y e in
      let s = spells_from_read run a.0 (units_ok left run a.0 (units_read run) refl a.1) in
      let made : Taken (Units run) bytes (Utf8 a.0, bytes) = record { text = []; parts = refl; spelled = (refl, a.0, s.0, s.1, refl); rest_fits = fits } in
      subst (λ z. Taken (Units run) bytes z) (ok_is (Utf8 a.0, bytes) y a.2) made;
  again = λ text rest y (nil, us, e, all, is).
      let k : units_read run ≡ Ok us = ap units_read e ∙ units_read-utf us all in
      rw (nil, k, is) refl;
}

abbrev pub TextBody : List ℕ → Entry → Type 0
TextBody = Then (Number w16 (2 ^ 16)) (λ n. Then (Run n) Units)

pub reads_text : Reads TextBody text_at
unfolding text_at
reads_text = reads_then (Number w16 (2 ^ 16)) (λ n. Then (Run n) Units) (λ bytes. number_at w16 bytes) (λ all n rest. run_at n rest >>= λ run. units_or (length rest) (units_read run.0) >>= λ units. Ok (Utf8 units, run.1))
    reads_16 (λ all n. reads_run_then n Units (λ all run bytes. units_or (length all) (units_read run) >>= λ us. Ok (Utf8 us, bytes)) (λ all run run_fits. reads_units (length all) run))

-- ---- entries

abbrev pub Single : (ℕ → Entry) → List ℕ → Entry → Type 0
Single made = Mapped made (Number w16 (2 ^ 16))

abbrev pub Twin : (ℕ → ℕ → Entry) → List ℕ → Entry → Type 0
Twin made = Then (Number w16 (2 ^ 16)) (λ a. Mapped (made a) (Number w16 (2 ^ 16)))

abbrev pub HandleBody : List ℕ → Entry → Type 0
HandleBody = Then (Number w8 (2 ^ 8)) (λ kind. Mapped (MethodHandle kind) (Number w16 (2 ^ 16)))

abbrev pub Twins : ℕ → List ℕ → Entry → Type 0
Twins tag text e = cond (eqb tag 9) (Twin Field text e) (cond (eqb tag 10) (Twin Method text e) (cond (eqb tag 11) (Twin InterfaceMethod text e)
    (cond (eqb tag 12) (Twin NameAndType text e) (cond (eqb tag 18) (Twin InvokeDynamic text e) (Never text e)))))

abbrev pub Singles : ℕ → List ℕ → Entry → Type 0
Singles tag text e = cond (eqb tag 7) (Single Class text e) (cond (eqb tag 8) (Single Str text e) (cond (eqb tag 16) (Single MethodType text e) (Twins tag text e)))

abbrev pub Numbers : ℕ → ℕ → List ℕ → Entry → Type 0
Numbers tag slots text e = cond (eqb tag 3) (Mapped Integer (Signed w32) text e) (cond (eqb tag 4) (Mapped Float (Number w32 (2 ^ 32)) text e)
    (cond (eqb tag 5 && ltb 0 slots) (Mapped Long (Signed w64) text e) (cond (eqb tag 6 && ltb 0 slots) (Mapped Double (Number w64 (2 ^ 64)) text e) (Singles tag text e))))

abbrev pub Body : ℕ → ℕ → List ℕ → Entry → Type 0
Body tag slots text e = cond (eqb tag 1) (TextBody text e) (cond (eqb tag 15) (HandleBody text e) (Numbers tag slots text e))

reads_single : (made : ℕ → Entry) → Reads (Single made) (single_at made)
reads_single made = reads_mapped made _ _ reads_16

reads_twin : (made : ℕ → ℕ → Entry) → Reads (Twin made) (twin_at made)
reads_twin made = reads_then _ _ (λ bytes. number_at w16 bytes) (λ _ a rest. number_at w16 rest >>= λ b. Ok (made a b.0, b.1)) reads_16 (λ _ a. reads_mapped (made a) _ _ reads_16)

reads_handle : Reads HandleBody handle_at
unfolding handle_at
reads_handle = reads_then _ _ (λ bytes. number_at w8 bytes) (λ _ kind rest. number_at w16 rest >>= λ b. Ok (MethodHandle kind b.0, b.1)) reads_8 (λ _ kind. reads_mapped (MethodHandle kind) _ _ reads_16)

reads_twins : (tag left : ℕ) → Reads (Twins tag) (twins_at tag left)
unfolding twins_at
reads_twins tag left =
    reads_if (eqb tag 9) _ _ _ _ (reads_twin Field)
    (reads_if (eqb tag 10) _ _ _ _ (reads_twin Method)
    (reads_if (eqb tag 11) _ _ _ _ (reads_twin InterfaceMethod)
    (reads_if (eqb tag 12) _ _ _ _ (reads_twin NameAndType)
    (reads_if (eqb tag 18) _ _ _ _ (reads_twin InvokeDynamic) (reads_never (BadTag left tag))))))

reads_singles : (tag left : ℕ) → Reads (Singles tag) (singles_at tag left)
unfolding singles_at
reads_singles tag left =
    reads_if (eqb tag 7) _ _ _ _ (reads_single Class)
    (reads_if (eqb tag 8) _ _ _ _ (reads_single Str)
    (reads_if (eqb tag 16) _ _ _ _ (reads_single MethodType) (reads_twins tag left)))

reads_numbers : (tag slots left : ℕ) → Reads (Numbers tag slots) (numbers_at tag slots left)
unfolding numbers_at
reads_numbers tag slots left =
    reads_if (eqb tag 3) _ _ _ _ (reads_signed_as w32 Integer wide32)
    (reads_if (eqb tag 4) _ _ _ _ (reads_mapped Float _ _ reads_32)
    (reads_if (eqb tag 5 && ltb 0 slots) _ _ _ _ (reads_signed_as w64 Long wide64)
    (reads_if (eqb tag 6 && ltb 0 slots) _ _ _ _ (reads_mapped Double _ _ reads_64) (reads_singles tag left))))

pub reads_body : (tag slots left : ℕ) → Reads (Body tag slots) (body_at tag slots left)
unfolding body_at
reads_body tag slots left = reads_if (eqb tag 1) _ _ _ _ reads_text (reads_if (eqb tag 15) _ _ _ _ reads_handle (reads_numbers tag slots left))

pub reads_tagged : (slots : ℕ) → Reads (Then (Number w8 (2 ^ 8)) (λ tag. Body tag slots)) (entry_at slots)
unfolding entry_at
reads_tagged slots = reads_then _ _ (λ bytes. number_at w8 bytes) (λ all tag rest. body_at tag slots (length all) rest) reads_8 (λ all tag. reads_body tag slots (length all))

-- ---- the entry's grammar in plain words

tagged : (t tag : ℕ) (more text : List ℕ) → text ≡ to_be_bytes w8 tag ++ more → eqb tag t ≡ true → text ≡ to_be_bytes w8 t ++ more
tagged t tag more text whole h = whole ∙ ap (λ k. to_be_bytes w8 k ++ more) (eqb-true tag t h)

single_to : (slots t : ℕ) (made : ℕ → Entry) → ((a : ℕ) → entry_bytes (made a) ≡ to_be_bytes w8 t ++ to_be_bytes w16 a) → ((a : ℕ) → a < 2 ^ 16 → EntryFits (made a)) → ((a : ℕ) → is_wide (Some (made a)) ≡ false)
    → (text more : List ℕ) (e : Entry) → text ≡ to_be_bytes w8 t ++ more → Single made more e → EntryText slots text e
single_to slots t made spell fits narrow text more e whole (a, s, is) =
    subst (λ y. EntryText slots text y) (sym is) (whole ∙ ap (λ x. to_be_bytes w8 t ++ x) s.0 ∙ sym (spell a), fits a s.1, λ w. absurd (let n = narrow a in cc))

twin_to : (slots t : ℕ) (made : ℕ → ℕ → Entry) → ((a b : ℕ) → entry_bytes (made a b) ≡ to_be_bytes w8 t ++ (to_be_bytes w16 a ++ to_be_bytes w16 b)) → ((a b : ℕ) → a < 2 ^ 16 → b < 2 ^ 16 → EntryFits (made a b)) → ((a b : ℕ) → is_wide (Some (made a b)) ≡ false)
    → (text more : List ℕ) (e : Entry) → text ≡ to_be_bytes w8 t ++ more → Twin made more e → EntryText slots text e
twin_to slots t made spell fits narrow text more e whole (a, at, m, j, sa, (b, sb, is)) =
    subst (λ y. EntryText slots text y) (sym is) (whole ∙ ap (λ x. to_be_bytes w8 t ++ x) (j ∙ ap (λ x. x ++ m) sa.0 ∙ ap (λ x. to_be_bytes w16 a ++ x) sb.0) ∙ sym (spell a b), fits a b sa.1 sb.1, λ w. absurd (let n = narrow a b in cc))

text_to : (slots : ℕ) (text more : List ℕ) (e : Entry) → text ≡ to_be_bytes w8 1 ++ more → TextBody more e → EntryText slots text e
text_to slots text more e whole (n, nt, m, j, tn, (run, rt, k, j2, tr, (nil, us, utf-is, all, is))) =
    let len : n ≡ length (utf us) = sym tr.1 ∙ ap length utf-is in
    let m-is : m ≡ utf us = j2 ∙ ap (λ x. rt ++ x) nil ∙ append-nil rt ∙ tr.0 ∙ utf-is in
    let spelled : text ≡ entry_bytes (Utf8 us) = whole ∙ ap (λ x. to_be_bytes w8 1 ++ x) (j ∙ ap (λ x. x ++ m) (tn.0 ∙ ap (to_be_bytes w16) len) ∙ ap (λ x. to_be_bytes w16 (length (utf us)) ++ x) m-is) in
    subst (λ y. EntryText slots text y) (sym is) (spelled, (subst (λ k. k < 2 ^ 16) len tn.1, all), λ w. absurd cc)

handle_to : (slots : ℕ) (text more : List ℕ) (e : Entry) → text ≡ to_be_bytes w8 15 ++ more → HandleBody more e → EntryText slots text e
handle_to slots text more e whole (a, at, m, j, sa, (b, sb, is)) =
    subst (λ y. EntryText slots text y) (sym is) (whole ∙ ap (λ x. to_be_bytes w8 15 ++ x) (j ∙ ap (λ x. x ++ m) sa.0 ∙ ap (λ x. to_be_bytes w8 a ++ x) sb.0), (sa.1, sb.1), λ w. absurd cc)

twins_to : (slots tag : ℕ) (text more : List ℕ) (e : Entry) → text ≡ to_be_bytes w8 tag ++ more → Twins tag more e → EntryText slots text e
twins_to slots tag text more e whole body =
    chosen (eqb tag 9) _ _ body (λ h b. twin_to slots 9 Field (λ a b. refl) (λ a b p q. (p, q)) (λ a b. refl) text more e (tagged 9 tag more text whole h) b)
    (λ _ body. chosen (eqb tag 10) _ _ body (λ h b. twin_to slots 10 Method (λ a b. refl) (λ a b p q. (p, q)) (λ a b. refl) text more e (tagged 10 tag more text whole h) b)
    (λ _ body. chosen (eqb tag 11) _ _ body (λ h b. twin_to slots 11 InterfaceMethod (λ a b. refl) (λ a b p q. (p, q)) (λ a b. refl) text more e (tagged 11 tag more text whole h) b)
    (λ _ body. chosen (eqb tag 12) _ _ body (λ h b. twin_to slots 12 NameAndType (λ a b. refl) (λ a b p q. (p, q)) (λ a b. refl) text more e (tagged 12 tag more text whole h) b)
    (λ _ body. chosen (eqb tag 18) _ _ body (λ h b. twin_to slots 18 InvokeDynamic (λ a b. refl) (λ a b p q. (p, q)) (λ a b. refl) text more e (tagged 18 tag more text whole h) b)
    (λ _ body. absurd body)))))

singles_to : (slots tag : ℕ) (text more : List ℕ) (e : Entry) → text ≡ to_be_bytes w8 tag ++ more → Singles tag more e → EntryText slots text e
singles_to slots tag text more e whole body =
    chosen (eqb tag 7) _ _ body (λ h b. single_to slots 7 Class (λ a. refl) (λ a p. p) (λ a. refl) text more e (tagged 7 tag more text whole h) b)
    (λ _ body. chosen (eqb tag 8) _ _ body (λ h b. single_to slots 8 Str (λ a. refl) (λ a p. p) (λ a. refl) text more e (tagged 8 tag more text whole h) b)
    (λ _ body. chosen (eqb tag 16) _ _ body (λ h b. single_to slots 16 MethodType (λ a. refl) (λ a p. p) (λ a. refl) text more e (tagged 16 tag more text whole h) b)
    (λ _ body. twins_to slots tag text more e whole body)))

numbers_to : (slots tag : ℕ) (text more : List ℕ) (e : Entry) → text ≡ to_be_bytes w8 tag ++ more → Numbers tag slots more e → EntryText slots text e
numbers_to slots tag text more e whole body =
    chosen (eqb tag 3) _ _ body (λ h (n, s, is). subst (λ y. EntryText slots text y) (sym is) (tagged 3 tag more text whole h ∙ ap (λ x. to_be_bytes w8 3 ++ x) s.0, s.1, λ w. absurd cc))
    (λ _ body. chosen (eqb tag 4) _ _ body (λ h (n, s, is). subst (λ y. EntryText slots text y) (sym is) (tagged 4 tag more text whole h ∙ ap (λ x. to_be_bytes w8 4 ++ x) s.0, s.1, λ w. absurd cc))
    (λ _ body. chosen (eqb tag 5 && ltb 0 slots) _ _ body (λ h (n, s, is). let b = and_parts _ _ h in subst (λ y. EntryText slots text y) (sym is) (tagged 5 tag more text whole b.0 ∙ ap (λ x. to_be_bytes w8 5 ++ x) s.0, s.1, λ w. ltb-true _ _ b.1))
    (λ _ body. chosen (eqb tag 6 && ltb 0 slots) _ _ body (λ h (n, s, is). let b = and_parts _ _ h in subst (λ y. EntryText slots text y) (sym is) (tagged 6 tag more text whole b.0 ∙ ap (λ x. to_be_bytes w8 6 ++ x) s.0, s.1, λ w. ltb-true _ _ b.1))
    (λ _ body. singles_to slots tag text more e whole body))))

entry_to : (slots : ℕ) (text : List ℕ) (e : Entry) → Then (Number w8 (2 ^ 8)) (λ tag. Body tag slots) text e → EntryText slots text e
entry_to slots text e (tag, one, more, joined, t, body) =
    let whole : text ≡ to_be_bytes w8 tag ++ more = joined ∙ ap (λ o. o ++ more) t.0 in
    chosen (eqb tag 1) _ _ body (λ h b. text_to slots text more e (tagged 1 tag more text whole h) b)
    (λ _ body. chosen (eqb tag 15) _ _ body (λ h b. handle_to slots text more e (tagged 15 tag more text whole h) b)
    (λ _ body. numbers_to slots tag text more e whole body))

is_bytes : (bytes : List ℕ) → All IsByte bytes → IsBytes bytes
is_bytes [] all i = omega arith
is_bytes (b ∷ bytes) all zero = All-head IsByte b bytes all
is_bytes (b ∷ bytes) all (suc i) = is_bytes bytes (All-tail IsByte b bytes all) i

-- what is read of a tag and two indices
twin_from : (made : ℕ → ℕ → Entry) (a b : ℕ) → a < 2 ^ 16 → b < 2 ^ 16 → Twin made (to_be_bytes w16 a ++ to_be_bytes w16 b) (made a b)
twin_from made a b p q = (a, to_be_bytes w16 a, to_be_bytes w16 b, refl, (refl, p), (b, (refl, q), refl))

entry_from : (slots : ℕ) (text : List ℕ) (e : Entry) → EntryText slots text e → Then (Number w8 (2 ^ 8)) (λ tag. Body tag slots) text e
entry_from slots text (Utf8 us) (e, fits, wide) = (
  1,
  to_be_bytes w8 1,
  to_be_bytes w16 (length (utf us)) ++ utf us,
  e,
  (refl, lit< tt),
  (
    length (utf us),
    to_be_bytes w16 (length (utf us)),
    utf us,
    refl,
    (refl, fits.0),
    (utf us, utf us, [], sym (append-nil (utf us)), (refl, refl, is_bytes (utf us) (utf_bytes us fits.1)), (refl, us, refl, fits.1, refl)),
  ),
)
entry_from slots text (Integer n) (e, fits, wide) = (3, to_be_bytes w8 3, to_be_bytes w32 (cast_unsigned w32 n), e, (refl, lit< tt), (n, (refl, fits), refl))
entry_from slots text (Float n) (e, fits, wide) = (4, to_be_bytes w8 4, to_be_bytes w32 n, e, (refl, lit< tt), (n, (refl, fits), refl))
entry_from slots text (Long n) (e, fits, wide) =
    let some : ltb 0 slots ≡ true = lt-ltb _ _ (wide refl) in
    (5, to_be_bytes w8 5, to_be_bytes w64 (cast_unsigned w64 n), e, (refl, lit< tt), rw some (n, (refl, fits), refl))
entry_from slots text (Double n) (e, fits, wide) =
    let some : ltb 0 slots ≡ true = lt-ltb _ _ (wide refl) in
    (6, to_be_bytes w8 6, to_be_bytes w64 n, e, (refl, lit< tt), rw some (n, (refl, fits), refl))
entry_from slots text (Class a) (e, fits, wide) = (7, to_be_bytes w8 7, to_be_bytes w16 a, e, (refl, lit< tt), (a, (refl, fits), refl))
entry_from slots text (Str a) (e, fits, wide) = (8, to_be_bytes w8 8, to_be_bytes w16 a, e, (refl, lit< tt), (a, (refl, fits), refl))
entry_from slots text (Field a b) (e, fits, wide) = (9, to_be_bytes w8 9, to_be_bytes w16 a ++ to_be_bytes w16 b, e, (refl, lit< tt), twin_from Field a b fits.0 fits.1)
entry_from slots text (Method a b) (e, fits, wide) = (10, to_be_bytes w8 10, to_be_bytes w16 a ++ to_be_bytes w16 b, e, (refl, lit< tt), twin_from Method a b fits.0 fits.1)
entry_from slots text (InterfaceMethod a b) (e, fits, wide) = (11, to_be_bytes w8 11, to_be_bytes w16 a ++ to_be_bytes w16 b, e, (refl, lit< tt), twin_from InterfaceMethod a b fits.0 fits.1)
entry_from slots text (NameAndType a b) (e, fits, wide) = (12, to_be_bytes w8 12, to_be_bytes w16 a ++ to_be_bytes w16 b, e, (refl, lit< tt), twin_from NameAndType a b fits.0 fits.1)
entry_from slots text (MethodHandle a b) (e, fits, wide) = (15, to_be_bytes w8 15, to_be_bytes w8 a ++ to_be_bytes w16 b, e, (refl, lit< tt), (a, to_be_bytes w8 a, to_be_bytes w16 b, refl, (refl, fits.0), (b, (refl, fits.1), refl)))
entry_from slots text (MethodType a) (e, fits, wide) = (16, to_be_bytes w8 16, to_be_bytes w16 a, e, (refl, lit< tt), (a, (refl, fits), refl))
entry_from slots text (InvokeDynamic a b) (e, fits, wide) = (18, to_be_bytes w8 18, to_be_bytes w16 a ++ to_be_bytes w16 b, e, (refl, lit< tt), twin_from InvokeDynamic a b fits.0 fits.1)

pub reads_entry : (slots : ℕ) → Reads (EntryText slots) (entry_at slots)
reads_entry slots = reads_as (Then (Number w8 (2 ^ 8)) (λ tag. Body tag slots)) (EntryText slots) (entry_at slots) (entry_to slots) (entry_from slots) (reads_tagged slots)

-- ---- slots

slot_to : (before : List (Option Entry)) (slots : ℕ) (text : List ℕ) (slot : Option Entry) → cond (is_second before) (Nothing None text slot) (Mapped Some (EntryText slots) text slot) → SlotText before slots text slot
slot_to before slots text slot s = chosen (is_second before) _ _ s (λ h t. subst (λ x. SlotText before slots text x) (sym t.1) (h, t.0)) (λ h (e, t, is). subst (λ x. SlotText before slots text x) (sym is) (h, t))

slot_from : (before : List (Option Entry)) (slots : ℕ) (text : List ℕ) (slot : Option Entry) → SlotText before slots text slot → cond (is_second before) (Nothing None text slot) (Mapped Some (EntryText slots) text slot)
slot_from before slots text None (h, nil) = rw h (nil, refl)
slot_from before slots text (Some e) (h, t) = rw h (e, t, refl)

pub reads_slot : (before : List (Option Entry)) (slots : ℕ) → Reads (SlotText before slots) (slot_at before slots)
unfolding slot_by
reads_slot before slots = reads_as (λ text x. cond (is_second before) (Nothing None text x) (Mapped Some (EntryText slots) text x)) (SlotText before slots) (slot_at before slots) (slot_to before slots) (slot_from before slots)
    (reads_if (is_second before) (Nothing None) (Mapped Some (EntryText slots)) _ _ (reads_nothing None) (reads_mapped Some (EntryText slots) (entry_at slots) (reads_entry slots)))

-- ---- passes

-- A pass finds nothing exactly where it finds nothing in each slot, wherever the slots lie.
found_none : (o : Option ℕ) (left : ℕ) (rest : Option ℕ) → found_at o left rest ≡ None → (o ≡ None) × (rest ≡ None)
found_none None left rest e = (refl, e)
found_none (Some at) left rest e = absurd cc

pub pass_all : (wrong : Option Entry → Option ℕ) (left : ℕ) (slots : List (Option Entry)) → pass wrong left slots ≡ None → All (λ s. wrong s ≡ None) slots
pass_all wrong left [] e = All-nil (λ s. wrong s ≡ None)
pass_all wrong left (s ∷ slots) e =
    let f = found_none (wrong s) left (pass wrong (left - slot_len s) slots) e in
    All-cons (λ s. wrong s ≡ None) s slots f.0 (pass_all wrong (left - slot_len s) slots f.1)

pub all_pass : (wrong : Option Entry → Option ℕ) (left : ℕ) (slots : List (Option Entry)) → All (λ s. wrong s ≡ None) slots → pass wrong left slots ≡ None
all_pass wrong left [] all = refl
all_pass wrong left (s ∷ slots) all =
    ap (λ o. found_at o left (pass wrong (left - slot_len s) slots)) (All-head (λ s. wrong s ≡ None) s slots all) ∙ all_pass wrong (left - slot_len s) slots (All-tail (λ s. wrong s ≡ None) s slots all)

no_place_ok : (fault : ℕ → Fault) (o : Option ℕ) (u : Unit {0}) → no_place fault o ≡ Ok u → o ≡ None
no_place_ok fault None u e = refl
no_place_ok fault (Some left) u e = absurd cc

-- ---- the pool

abbrev pub Sound : List (Option Entry) → List ℕ → List (Option Entry) → Type 0
Sound slots text y = (text ≡ []) × IsSound slots × (y ≡ slots)

reads_sound : (slots : List (Option Entry)) (left : ℕ) → Reads (Sound slots) (λ bytes. indices_pass slots left >>= λ _. names_pass slots left >>= λ _. Ok (slots, bytes))
unfolding indices_pass names_pass
reads_sound slots left = record {
  takes = λ bytes y fits e.
      let a = bind_ok (no_place BadIndex (pass (wrong_index slots) left slots)) (λ _. no_place BadDescriptor (pass (wrong_name slots) left slots) >>= λ _. Ok (slots, bytes)) y e in
      let b = bind_ok (no_place BadDescriptor (pass (wrong_name slots) left slots)) (λ _. Ok (slots, bytes)) y a.2 in
      let sound : IsSound slots = record { indices = pass_all (wrong_index slots) left slots (no_place_ok BadIndex _ a.0 a.1); names = pass_all (wrong_name slots) left slots (no_place_ok BadDescriptor _ b.0 b.1) } in
      let made : Taken (Sound slots) bytes (slots, bytes) = record { text = []; parts = refl; spelled = (refl, sound, refl); rest_fits = fits } in
      subst (λ z. Taken (Sound slots) bytes z) (ok_is (slots, bytes) y b.2) made;
  again = λ text rest y s. rw (all_pass (wrong_index slots) left slots s.1.indices, all_pass (wrong_name slots) left slots s.1.names, s.0, s.2) refl;
}

pool_to : (text : List ℕ) (slots : List (Option Entry)) → Then (Number w16 (2 ^ 16)) (λ n. Then (Counted SlotText [] (n - 1)) Sound) text slots → PoolText text slots
pool_to text slots (n, one, more, e, s, (read, t, none, f, (xs, is, len, j), (nil, sound, same))) =
    let xs-is : xs ≡ slots = sym is ∙ sym same in (
      n,
      more,
      s.1,
      sym len ∙ ap length xs-is,
      e ∙ ap (λ o. o ++ more) s.0,
      subst (λ x. Joined SlotText [] more x) xs-is (subst (λ m. Joined SlotText [] m xs) (sym (f ∙ ap (λ r. t ++ r) nil ∙ append-nil t)) j),
      subst IsSound (sym same) sound,
    )

pool_from : (text : List ℕ) (slots : List (Option Entry)) → PoolText text slots → Then (Number w16 (2 ^ 16)) (λ n. Then (Counted SlotText [] (n - 1)) Sound) text slots
pool_from text slots (n, more, lt, len, e, j, sound) = (n, to_be_bytes w16 n, more, e, (refl, lt), (slots, more, [], sym (append-nil more), (slots, refl, sym len, j), (refl, sound, refl)))

pub reads_pool : Reads PoolText pool_at
unfolding pool_at
reads_pool = reads_as _ PoolText _ pool_to pool_from (reads_then (Number w16 (2 ^ 16)) (λ n. Then (Counted SlotText [] (n - 1)) Sound) (λ bytes. number_at w16 bytes)
    (λ all n rest. slots_at n rest >>= λ slots. indices_pass slots.0 (length rest) >>= λ _. names_pass slots.0 (length rest) >>= λ _. Ok slots)
    reads_16 (λ all n. reads_then (Counted SlotText [] (n - 1)) Sound (λ bytes. slots_at n bytes) (λ all slots rest. indices_pass slots (length all) >>= λ _. names_pass slots (length all) >>= λ _. Ok (slots, rest))
    (reads_counted SlotText slot_at reads_slot (n - 1) []) (λ all slots. reads_sound slots (length all))))
