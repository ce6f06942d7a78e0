-- The class file: what is read is spelled so, and what is spelled so is read.
use Rattle.std.proofs.Common.{◌≡◌, ℕ, ◌+◌, Bool, not, eqb, ltb, leb, ◌&&◌, List, [], ◌++◌, length, Option, Some, None, is_some, Result, Ok, Err, refl, sym, ap, subst, ◌∙◌, append_assoc}
use Rattle.std.specs.Int.{w16, w32}
use Rattle.std.proofs.lemmas.{Bool.eqb-true, List.append-nil, List.nil_from_length}
use Rattle.class_pool.specs.{declared.fault.Fault.Fault, declared.pool.Entry.Entry, Reading.number_at, Reading.run_at, Loops.counted, Loops.folded}
use Rattle.class_pool.specs.declared.fault.Fault.TheVariants.{Truncated, BadMagic, BadVersion, BadLength, Repeated, CodeKind, Trailing}
use Rattle.et_base.specs.Answers.{◌>>=◌, tested}
use Rattle.class_pool.specs.{PoolGrammar.PoolText, Pool.entry_of, Pool.is_text, Pool.is_class, Pool.pool_at}
use Rattle.class_pool.specs.Grammar.{IsBytes, Nothing, Then, Mapped, Tested, Run, Sized}
use Rattle.class_pool.proofs.Laws.{bind_ok, ok_is, tested_ok, Reads, reads_nothing, reads_then, tested_then, reads_mapped, reads_if, reads_run, reads_16, reads_32, reads_counted, reads_folded, reads_sized}
use Rattle.class_pool.proofs.PoolLaw.{reads_pool}
use Rattle.class_reader.proofs.{HandlerLaw.reads_handlers, MapLaw.reads_map, IndexLaw.reads_index, IndexLaw.reads_form}
use Rattle.code_decode.specs.{declared.decoding.Code.Code, CodeGrammar.CodeText, Decoding.code_at}
use Rattle.code_decode.proofs.WholeLaw.{code_takes, code_again}
use Rattle.class_reader.specs.declared.parts.{CodePart.CodePart, MemberPart.MemberPart, ClassParts.ClassParts}
use Rattle.class_reader.specs.{Handlers.handlers_at, Handlers.HandlersText, Maps.map_at, MapGrammar.MapText, Indices.index_at, Indices.form_at, Indices.Index}
use Rattle.class_reader.specs.Names.{is_code, is_constant_value, is_stack_map, is_own_class, is_field_name, is_field_type, is_method_name, is_method_type, fits_constant, is_repeated, fits_flags}
use Rattle.class_reader.specs.Class.{other_at, once_at, attribute_at, attributes_at, skipped_at, all_skipped_at, constant_at, run_code_at, part_at, code_attribute_at, field_at, fields_at, method_at, methods_at, head_at, interfaces_at, members_at, body_at, class_at}
use Rattle.class_reader.specs.ClassGrammar.{OtherText, OnceText, AttributeText, AttributesText, SkippedText, AllSkippedText, ConstantText, RunText, Beside, part_of, PartText, field_of, FieldText, FieldsText, method_of, MethodText, MethodsText, HeadText, InterfacesText, pair_of, MembersText, parts_of, BodyText, class_bytes}

-- ---- attributes

reads_other : Reads OtherText other_at
unfolding other_at
reads_other = reads_then _ _ (λ b. number_at w32 b) (λ _ n rest. run_at n rest >>= λ run. Ok (tt, run.1)) reads_32
    (λ _ n. reads_mapped (λ _. tt) (Run n) (λ rest. run_at n rest) (reads_run n (λ b. Truncated (length b))))

reads_once : {A : Type 0} (wanted : Bool) (S : List ℕ → A → Type 0) (content : List ℕ → Result (A × List ℕ) Fault) (found : Option A) (left : ℕ) → Reads S content → Reads (OnceText wanted S found) (once_at wanted content found left)
unfolding once_at
reads_once wanted S content found left p = reads_if wanted (Tested (not (is_some found)) (Mapped Some S)) (Mapped (λ _. found) OtherText)
    (λ b. tested (not (is_some found)) (Repeated left) >>= λ _. content b >>= λ x. Ok (Some x.0, x.1)) (λ b. other_at b >>= λ other. Ok (found, other.1))
    (tested_then (not (is_some found)) (λ _. Repeated left) (Mapped Some S) _ (reads_mapped Some S content p))
    (reads_mapped (λ _. found) OtherText other_at reads_other)

reads_attribute : {A : Type 0} (wanted : Option Entry → Bool) (S : List ℕ → A → Type 0) (content : List ℕ → Result (A × List ℕ) Fault) (slots : List (Option Entry)) → Reads S content → (found : Option A) → Reads (AttributeText wanted S slots found) (attribute_at wanted content slots found)
unfolding attribute_at
reads_attribute wanted S content slots p found = reads_then _ _ (index_at is_text slots) (λ all name rest. once_at (wanted (entry_of slots name)) content found (length all) rest) (reads_index is_text slots)
    (λ all name. reads_once (wanted (entry_of slots name)) S content found (length all) p)

reads_attributes : {A : Type 0} (wanted : Option Entry → Bool) (S : List ℕ → A → Type 0) (content : List ℕ → Result (A × List ℕ) Fault) (slots : List (Option Entry)) → Reads S content → Reads (AttributesText wanted S slots) (attributes_at wanted content slots)
unfolding attributes_at
reads_attributes wanted S content slots p = reads_then _ _ (λ b. number_at w16 b) (λ _ n rest. folded (λ found b. attribute_at wanted content slots found b) None n rest) reads_16
    (λ _ n. reads_folded (AttributeText wanted S slots) (λ found b. attribute_at wanted content slots found b) (reads_attribute wanted S content slots p) n None)

reads_skipped : (slots : List (Option Entry)) → Reads (SkippedText slots) (skipped_at slots)
unfolding skipped_at
reads_skipped slots = reads_then _ _ (index_at is_text slots) (λ _ _ rest. other_at rest) (reads_index is_text slots) (λ _ _. reads_other)

reads_all_skipped : (slots : List (Option Entry)) → Reads (AllSkippedText slots) (all_skipped_at slots)
unfolding all_skipped_at
reads_all_skipped slots = reads_then _ _ (λ b. number_at w16 b) (λ _ n rest. folded (λ _ b. skipped_at slots b) tt n rest) reads_16
    (λ _ n. reads_folded (λ _. SkippedText slots) (λ _ b. skipped_at slots b) (λ _. reads_skipped slots) n tt)

reads_constant : (slots : List (Option Entry)) (descriptor : ℕ) → Reads (ConstantText slots descriptor) (constant_at slots descriptor)
unfolding constant_at
reads_constant slots descriptor = reads_then _ _ (λ b. number_at w32 b) (λ all n rest. tested (eqb n 2) (BadLength (length all)) >>= λ _. index_at (fits_constant (entry_of slots descriptor)) slots rest) reads_32
    (λ all n. tested_then (eqb n 2) (λ _. BadLength (length all)) (Index (fits_constant (entry_of slots descriptor)) slots) (index_at (fits_constant (entry_of slots descriptor)) slots) (reads_index (fits_constant (entry_of slots descriptor)) slots))

-- ---- Code

-- one part and then another, of which it is known that the first was spelled
reads_then_of : {A B : Type 0} (S : List ℕ → A → Type 0) (T : A → List ℕ → B → Type 0) (first : List ℕ → Result (A × List ℕ) Fault) (next : A → List ℕ → Result (B × List ℕ) Fault)
    → Reads S first → ((text : List ℕ) (x : A) → S text x → Reads (T x) (next x)) → Reads (Then S T) (λ bytes. first bytes >>= λ x. next x.0 x.1)
reads_then_of S T first next p q = record {
  takes = λ bytes y fits e.
      let a = bind_ok (first bytes) (λ x. next x.0 x.1) y e in
      let t = p.takes bytes a.0 fits a.1 in
      let u = (q t.text a.0.0 t.spelled).takes a.0.1 y t.rest_fits a.2 in
      record { text = t.text ++ u.text; parts = t.parts ∙ ap (λ (r : List ℕ). t.text ++ r) u.parts ∙ sym (append_assoc t.text u.text y.1); spelled = (a.0.0, t.text, u.text, refl, t.spelled, u.spelled); rest_fits = u.rest_fits };
  again = λ text rest y (x, one, more, e, s, t).
      let whole : text ++ rest ≡ one ++ (more ++ rest) = ap (λ b. b ++ rest) e ∙ append_assoc one more rest in
      ap (λ r. r >>= λ x. next x.0 x.1) (ap first whole ∙ p.again one (more ++ rest) x s) ∙ (q one x s).again more rest y t;
}

-- a value that is read from elsewhere
reads_beside : {A B : Type 0} (r : Result A Fault) (P : A → Type 0) (T : A → List ℕ → B → Type 0) (next : A → List ℕ → Result (B × List ℕ) Fault) → ((x : A) → r ≡ Ok x → P x) → ((x : A) → P x → r ≡ Ok x) → ((x : A) → Reads (T x) (next x)) → Reads (Beside P T) (λ bytes. r >>= λ x. next x bytes)
reads_beside r P T next to from p = record {
  takes = λ bytes y fits e.
      let a = bind_ok r (λ x. next x bytes) y e in
      let t = (p a.0).takes bytes y fits a.2 in
      record { text = t.text; parts = t.parts; spelled = (a.0, to a.0 a.1, t.spelled); rest_fits = t.rest_fits };
  again = λ text rest y (x, h, s). ap (λ r. r >>= λ x. next x (text ++ rest)) (from x h) ∙ (p x).again text rest y s;
}

reads_run_code : Reads RunText run_code_at
unfolding run_code_at
reads_run_code = reads_then _ _ (λ b. number_at w32 b) (λ all n rest. tested (ltb 0 n && ltb n 65536) (BadLength (length all)) >>= λ _. run_at n rest) reads_32
    (λ all n. tested_then (ltb 0 n && ltb n 65536) (λ _. BadLength (length all)) (Run n) (λ rest. run_at n rest) (reads_run n (λ b. Truncated (length b))))

-- the bytes of code
run_bytes : (text run : List ℕ) → RunText text run → IsBytes run
run_bytes text run (n, one, more, e, s, (test, (same, len, fits))) = fits

-- what stands behind code
behind_at : ℕ → List (Option Entry) → ℕ → ℕ → Code → List ℕ → Result (CodePart × List ℕ) Fault
behind_at method slots stack locals code bytes = handlers_at method slots code bytes >>= λ handlers. attributes_at is_stack_map (map_at slots) slots handlers.1 >>= λ map. Ok (part_of stack locals code handlers.0 map.0, map.1)

reads_behind : (method : ℕ) (slots : List (Option Entry)) (stack locals : ℕ) (code : Code) → Reads (Then (HandlersText slots code) (λ handlers. Mapped (part_of stack locals code handlers) (AttributesText is_stack_map (MapText slots) slots))) (behind_at method slots stack locals code)
unfolding behind_at
reads_behind method slots stack locals code = reads_then _ _ (handlers_at method slots code) (λ _ handlers rest. attributes_at is_stack_map (map_at slots) slots rest >>= λ map. Ok (part_of stack locals code handlers map.0, map.1)) (reads_handlers method slots code)
    (λ _ handlers. reads_mapped (part_of stack locals code handlers) (AttributesText is_stack_map (MapText slots) slots) (attributes_at is_stack_map (map_at slots) slots) (reads_attributes is_stack_map (MapText slots) (map_at slots) slots (reads_map slots)))

reads_part : (method : ℕ) (slots : List (Option Entry)) → Reads (PartText slots) (part_at method slots)
unfolding part_at behind_at
reads_part method slots = reads_then _ _ (λ b. number_at w16 b) (λ _ stack rest. number_at w16 rest >>= λ locals. run_code_at locals.1 >>= λ run. code_at method slots run.0 >>= λ code. behind_at method slots stack locals.0 code run.1) reads_16
    (λ _ stack. reads_then _ _ (λ b. number_at w16 b) (λ _ locals rest. run_code_at rest >>= λ run. code_at method slots run.0 >>= λ code. behind_at method slots stack locals code run.1) reads_16
    (λ _ locals. reads_then_of _ _ run_code_at (λ run rest. code_at method slots run >>= λ code. behind_at method slots stack locals code rest) reads_run_code
    (λ text run s. reads_beside (code_at method slots run) (CodeText slots run) _ (λ code rest. behind_at method slots stack locals code rest)
    (λ code e. code_takes method slots run code (run_bytes text run s) e) (λ code h. code_again method slots run code h) (reads_behind method slots stack locals))))

reads_code_attribute : (method : ℕ) (slots : List (Option Entry)) → Reads (Sized (PartText slots)) (code_attribute_at method slots)
unfolding code_attribute_at
reads_code_attribute method slots = reads_sized (PartText slots) (part_at method slots) (λ b. Truncated (length b)) (λ b. BadLength (length b)) (reads_part method slots)

-- ---- fields and methods

reads_field : (slots : List (Option Entry)) (before : List MemberPart) → Reads (FieldText slots before) (field_at slots before)
unfolding field_at
reads_field slots before = reads_then _ _ (λ b. number_at w16 b) (λ _ flags rest. form_at is_field_name slots rest >>= λ name. form_at is_field_type slots name.1 >>= λ descriptor. tested (not (is_repeated slots before name.0 descriptor.0)) (Repeated (length name.1)) >>= λ _. attributes_at is_constant_value (constant_at slots descriptor.0) slots descriptor.1 >>= λ constant. Ok (field_of flags name.0 descriptor.0 constant.0, constant.1)) reads_16
    (λ _ flags. reads_then _ _ (form_at is_field_name slots) (λ _ name rest. form_at is_field_type slots rest >>= λ descriptor. tested (not (is_repeated slots before name descriptor.0)) (Repeated (length rest)) >>= λ _. attributes_at is_constant_value (constant_at slots descriptor.0) slots descriptor.1 >>= λ constant. Ok (field_of flags name descriptor.0 constant.0, constant.1)) (reads_form is_field_name slots)
    (λ _ name. reads_then _ _ (form_at is_field_type slots) (λ all descriptor rest. tested (not (is_repeated slots before name descriptor)) (Repeated (length all)) >>= λ _. attributes_at is_constant_value (constant_at slots descriptor) slots rest >>= λ constant. Ok (field_of flags name descriptor constant.0, constant.1)) (reads_form is_field_type slots)
    (λ all descriptor. tested_then (not (is_repeated slots before name descriptor)) (λ _. Repeated (length all)) (Mapped (field_of flags name descriptor) (AttributesText is_constant_value (ConstantText slots descriptor) slots)) _
    (reads_mapped (field_of flags name descriptor) (AttributesText is_constant_value (ConstantText slots descriptor) slots) (attributes_at is_constant_value (constant_at slots descriptor) slots) (reads_attributes is_constant_value (ConstantText slots descriptor) (constant_at slots descriptor) slots (reads_constant slots descriptor))))))

reads_fields : (slots : List (Option Entry)) → Reads (FieldsText slots) (fields_at slots)
unfolding fields_at
reads_fields slots = reads_then _ _ (λ b. number_at w16 b) (λ _ n rest. counted (λ before _ b. field_at slots before b) [] n rest) reads_16
    (λ _ n. reads_counted (λ before _. FieldText slots before) (λ before _ b. field_at slots before b) (λ before _. reads_field slots before) n [])

-- what follows a method's name and descriptor
reads_kind : (flags name descriptor number left : ℕ) (slots : List (Option Entry)) → Reads (Then (AttributesText is_code (Sized (PartText slots)) slots) (λ code. Tested (fits_flags flags (is_some code)) (Nothing (method_of flags name descriptor code))))
    (λ bytes. attributes_at is_code (code_attribute_at number slots) slots bytes >>= λ code. tested (fits_flags flags (is_some code.0)) (CodeKind left) >>= λ _. Ok (method_of flags name descriptor code.0, code.1))
reads_kind flags name descriptor number left slots = reads_then _ _ (attributes_at is_code (code_attribute_at number slots) slots) (λ _ code rest. tested (fits_flags flags (is_some code)) (CodeKind left) >>= λ _. Ok (method_of flags name descriptor code, rest)) (reads_attributes is_code (Sized (PartText slots)) (code_attribute_at number slots) slots (reads_code_attribute number slots))
    (λ _ code. tested_then (fits_flags flags (is_some code)) (λ _. CodeKind left) (Nothing (method_of flags name descriptor code)) (λ rest. Ok (method_of flags name descriptor code, rest)) (reads_nothing (method_of flags name descriptor code)))

reads_method : (slots : List (Option Entry)) (before : List MemberPart) → Reads (MethodText slots before) (method_at slots before)
unfolding method_at
reads_method slots before = reads_then _ _ (λ b. number_at w16 b) (λ all flags rest. form_at is_method_name slots rest >>= λ name. form_at (is_method_type flags) slots name.1 >>= λ descriptor. tested (not (is_repeated slots before name.0 descriptor.0)) (Repeated (length name.1)) >>= λ _. attributes_at is_code (code_attribute_at (length before + 1) slots) slots descriptor.1 >>= λ code. tested (fits_flags flags (is_some code.0)) (CodeKind (length all)) >>= λ _. Ok (method_of flags name.0 descriptor.0 code.0, code.1)) reads_16
    (λ begin flags. reads_then _ _ (form_at is_method_name slots) (λ _ name rest. form_at (is_method_type flags) slots rest >>= λ descriptor. tested (not (is_repeated slots before name descriptor.0)) (Repeated (length rest)) >>= λ _. attributes_at is_code (code_attribute_at (length before + 1) slots) slots descriptor.1 >>= λ code. tested (fits_flags flags (is_some code.0)) (CodeKind (length begin)) >>= λ _. Ok (method_of flags name descriptor.0 code.0, code.1)) (reads_form is_method_name slots)
    (λ _ name. reads_then _ _ (form_at (is_method_type flags) slots) (λ all descriptor rest. tested (not (is_repeated slots before name descriptor)) (Repeated (length all)) >>= λ _. attributes_at is_code (code_attribute_at (length before + 1) slots) slots rest >>= λ code. tested (fits_flags flags (is_some code.0)) (CodeKind (length begin)) >>= λ _. Ok (method_of flags name descriptor code.0, code.1)) (reads_form (is_method_type flags) slots)
    (λ all descriptor. tested_then (not (is_repeated slots before name descriptor)) (λ _. Repeated (length all)) _ _ (reads_kind flags name descriptor (length before + 1) (length begin) slots))))

reads_methods : (slots : List (Option Entry)) → Reads (MethodsText slots) (methods_at slots)
unfolding methods_at
reads_methods slots = reads_then _ _ (λ b. number_at w16 b) (λ _ n rest. counted (λ before _ b. method_at slots before b) [] n rest) reads_16
    (λ _ n. reads_counted (λ before _. MethodText slots before) (λ before _ b. method_at slots before b) (λ before _. reads_method slots before) n [])

-- ---- the file

reads_head : Reads HeadText head_at
unfolding head_at
reads_head = reads_then _ _ (λ b. number_at w32 b) (λ _ magic rest. tested (eqb magic 3405691582) BadMagic >>= λ _. number_at w16 rest >>= λ minor. number_at w16 minor.1 >>= λ major. tested (leb 50 major.0 && leb major.0 52) (BadVersion major.0) >>= λ _. Ok ((minor.0, major.0), major.1)) reads_32
    (λ _ magic. tested_then (eqb magic 3405691582) (λ _. BadMagic) _ (λ rest. number_at w16 rest >>= λ minor. number_at w16 minor.1 >>= λ major. tested (leb 50 major.0 && leb major.0 52) (BadVersion major.0) >>= λ _. Ok ((minor.0, major.0), major.1))
    (reads_then _ _ (λ b. number_at w16 b) (λ _ minor rest. number_at w16 rest >>= λ major. tested (leb 50 major.0 && leb major.0 52) (BadVersion major.0) >>= λ _. Ok ((minor, major.0), major.1)) reads_16
    (λ _ minor. reads_then _ _ (λ b. number_at w16 b) (λ _ major rest. tested (leb 50 major && leb major 52) (BadVersion major) >>= λ _. Ok ((minor, major), rest)) reads_16
    (λ _ major. tested_then (leb 50 major && leb major 52) (λ _. BadVersion major) (Nothing (minor, major)) (λ rest. Ok ((minor, major), rest)) (reads_nothing (minor, major))))))

reads_interfaces : (slots : List (Option Entry)) → Reads (InterfacesText slots) (interfaces_at slots)
unfolding interfaces_at
reads_interfaces slots = reads_then _ _ (λ b. number_at w16 b) (λ _ n rest. counted (λ _ _ b. index_at is_class slots b) [] n rest) reads_16
    (λ _ n. reads_counted (λ _ _. Index is_class slots) (λ _ _ b. index_at is_class slots b) (λ _ _. reads_index is_class slots) n [])

reads_members : (slots : List (Option Entry)) → Reads (MembersText slots) (members_at slots)
unfolding members_at
reads_members slots = reads_then _ _ (fields_at slots) (λ _ fields rest. methods_at slots rest >>= λ methods. all_skipped_at slots methods.1 >>= λ others. Ok (pair_of fields methods.0, others.1)) (reads_fields slots)
    (λ _ fields. reads_then _ _ (methods_at slots) (λ _ methods rest. all_skipped_at slots rest >>= λ others. Ok (pair_of fields methods, others.1)) (reads_methods slots)
    (λ _ methods. reads_mapped (λ _. pair_of fields methods) (AllSkippedText slots) (all_skipped_at slots) (reads_all_skipped slots)))

reads_body : (version : ℕ × ℕ) (slots : List (Option Entry)) → Reads (BodyText version slots) (body_at version slots)
unfolding body_at
reads_body version slots = reads_then _ _ (λ b. number_at w16 b) (λ _ flags rest. index_at (is_own_class slots) slots rest >>= λ this. index_at is_class slots this.1 >>= λ super. interfaces_at slots super.1 >>= λ interfaces. members_at slots interfaces.1 >>= λ members. Ok (parts_of version slots flags this.0 super.0 interfaces.0 members.0, members.1)) reads_16
    (λ _ flags. reads_then _ _ (index_at (is_own_class slots) slots) (λ _ this rest. index_at is_class slots rest >>= λ super. interfaces_at slots super.1 >>= λ interfaces. members_at slots interfaces.1 >>= λ members. Ok (parts_of version slots flags this super.0 interfaces.0 members.0, members.1)) (reads_index (is_own_class slots) slots)
    (λ _ this. reads_then _ _ (index_at is_class slots) (λ _ super rest. interfaces_at slots rest >>= λ interfaces. members_at slots interfaces.1 >>= λ members. Ok (parts_of version slots flags this super interfaces.0 members.0, members.1)) (reads_index is_class slots)
    (λ _ super. reads_then _ _ (interfaces_at slots) (λ _ interfaces rest. members_at slots rest >>= λ members. Ok (parts_of version slots flags this super interfaces members.0, members.1)) (reads_interfaces slots)
    (λ _ interfaces. reads_mapped (parts_of version slots flags this super interfaces) (MembersText slots) (members_at slots) (reads_members slots)))))

-- all but the test that nothing follows
abbrev front_at : List ℕ → Result (ClassParts × List ℕ) Fault
front_at bytes = head_at bytes >>= λ version. pool_at version.1 >>= λ slots. body_at version.0 slots.0 slots.1

reads_front : Reads class_bytes front_at
unfolding class_bytes
reads_front = reads_then HeadText _ head_at (λ _ version rest. pool_at rest >>= λ slots. body_at version slots.0 slots.1) reads_head
    (λ _ version. reads_then PoolText (λ slots. BodyText version slots) pool_at (λ _ slots rest. body_at version slots rest) reads_pool (λ _ slots. reads_body version slots))

ended_at : List ℕ → Result ClassParts Fault
ended_at bytes = front_at bytes >>= λ parts. tested (eqb (length parts.1) 0) (Trailing (length parts.1)) >>= λ _. Ok parts.0

regrouped : {A B C : Type 0} (r : Result A Fault) (f : A → Result B Fault) (g : B → Result C Fault) → (r >>= λ x. f x >>= g) ≡ ((r >>= f) >>= g)
regrouped (Ok x) f g = refl
regrouped (Err d) f g = refl

same_class : (bytes : List ℕ) → class_at bytes ≡ ended_at bytes
unfolding class_at ended_at
same_class bytes =
    let last = λ (parts : ClassParts × List ℕ). tested (eqb (length parts.1) 0) (Trailing (length parts.1)) >>= λ _. Ok parts.0 in
    let inner : (version : (ℕ × ℕ) × List ℕ) → (pool_at version.1 >>= λ slots. body_at version.0 slots.0 slots.1 >>= last) ≡ ((pool_at version.1 >>= λ slots. body_at version.0 slots.0 slots.1) >>= last) = λ version. regrouped (pool_at version.1) (λ slots. body_at version.0 slots.0 slots.1) last in
    simp (inner, regrouped (head_at bytes) (λ version. pool_at version.1 >>= λ slots. body_at version.0 slots.0 slots.1) last)

-- what is read is spelled so
pub class_takes : (bytes : List ℕ) (c : ClassParts) → IsBytes bytes → class_at bytes ≡ Ok c → class_bytes bytes c
unfolding ended_at
class_takes bytes c fits e =
    let a = bind_ok (front_at bytes) (λ parts. tested (eqb (length parts.1) 0) (Trailing (length parts.1)) >>= λ _. Ok parts.0) c (sym (same_class bytes) ∙ e) in
    let b = tested_ok (eqb (length a.0.1) 0) (Trailing (length a.0.1)) (Ok a.0.0) c a.2 in
    let t = reads_front.takes bytes a.0 fits a.1 in
    let whole : bytes ≡ t.text = t.parts ∙ ap (λ r. t.text ++ r) (nil_from_length a.0.1 (eqb-true _ _ b.0)) ∙ append-nil t.text in
    subst (λ z. class_bytes bytes z) (ok_is a.0.0 c b.1) (subst (λ w. class_bytes w a.0.0) (sym whole) t.spelled)

-- what is spelled so is read
pub class_again : (bytes : List ℕ) (c : ClassParts) → class_bytes bytes c → class_at bytes ≡ Ok c
unfolding ended_at
class_again bytes c s =
    let f : front_at bytes ≡ Ok (c, []) = ap front_at (sym (append-nil bytes)) ∙ reads_front.again bytes [] c s in
    same_class bytes ∙ ap (λ r. r >>= λ parts. tested (eqb (length parts.1) 0) (Trailing (length parts.1)) >>= λ _. Ok parts.0) f

pub fault_spells_none : (bytes : List ℕ) (fault : Fault) (c : ClassParts) → class_at bytes ≡ Err fault → class_bytes bytes c → ⊥
fault_spells_none bytes fault c e s = let again = class_again bytes c s in cc

-- the bytes spell one class file at most
pub same_spelled : (bytes : List ℕ) (c d : ClassParts) → class_at bytes ≡ Ok d → class_bytes bytes c → c ≡ d
same_spelled bytes c d e s = ok_is c d (sym (class_again bytes c s) ∙ e)
