-- The class and the tests of k tests link to the generated program.
use Rattle.std.proofs.Common.{◌≡◌, inl, inr, ℕ, zero, suc, ◌+◌, ◌%◌, ◌<◌, ◌≤◌, Bool, true, false, not, ◌&&◌, ◌||◌, cond, nat_eq, pos, is_some, is_none, List, [], ◌∷◌, ◌++◌, length, map, Option, Some, None, Result, Ok, Err, refl, sym, ap, subst, ◌∙◌, arith, append-nil}
use Rattle.std.specs.Prelude.{codes, option_and_then}
use Rattle.std.specs.List.{range_with_len}
use Rattle.std.proofs.{Math.Nat.mod-eq_of_lt, lemmas.Bool.eqb-true, lemmas.List.append_assoc, lemmas.List.length-append}
use Rattle.et_base.specs.Answers.{◌>>=◌}
use Rattle.et_base.proofs.Cases.{by_test}
use Rattle.class_pool.specs.Pool.{entry_of}
use Rattle.jvm_model.specs.declared.values.Kind.TheVariants as kind
use Rattle.jvm_model.specs.declared.values.Value.TheVariants as value
use Rattle.jvm_model.specs.declared.instr.Instr.TheVariants as form
use Rattle.jvm_model.specs.declared.instr.Op.TheVariants as operation
use Rattle.jvm_model.specs.declared.program.{Program.Program, ClassRec.ClassRec, MethodRec.MethodRec, Body.Body, TestEntry.TestEntry}
use Rattle.jvm_model.specs.{Library.builtin_defs, Library.builtin_classes, Library.builtin_fields, Library.builtin_methods, Driver.plain_method_in}
use Rattle.jvm_model.specs.Classes.{class_at, is_static, is_abstract, is_interface, member, init_name}
use Rattle.jvm_model.specs.Linked.{IsDirect, IsAncestor, direct, further, test_method}
use Rattle.jvm_model.proofs.BuiltinRules.{lengths}
use Rattle.member_lookup.specs.Ancestors.{IsFirstCycle}
use Rattle.member_lookup.proofs.Ancestry.{none_builtin, none_more, none_all}
use Rattle.code_forms.specs.declared.references.Target.TheVariants as target
use Rattle.code_forms.specs.Forms.{form_of, constants, numbers, branches, members}
use Rattle.class_link.specs.{declared.fault.LinkFault.LinkFault, ClassNames.name_at, ClassNames.missing, ClassNames.needed_class, References.target_of}
use Rattle.class_link.specs.declared.fault.LinkFault.TheVariants as fault
use Rattle.class_link.specs.{Bodies.linked_body, Assembly.assembled, Assembly.skeleton}
use Rattle.class_link.specs.Faults.{first_some, duplicate_fault, missing_or, wrong_unless, supertype_fits, supertype_fault, supertypes_fault, all_references_fault, holds_tests, is_test_method, test_in, test_entry, entry_with}
use Rattle.class_link.specs.Link.{setting, unless, tests_of, program_of, link_by}
use Rattle.suite_load.specs.Loading.{line_of, lines_of}
use Rattle.suite_gen.specs.Generated.{op, group_of, group_count, field_entry, code_of, slots, generated_class}
use Rattle.suite_gen.specs.Generated as generated
use Rattle.generated_law.specs.GeneratedSuite.{method_name, said_test, said_suite, field_number, method_number, print_number, gen_class, gen_field, gen_method, gen_program, setting_body, printing_body, adding_body, gen_body, gen_test, generated_program, placed}
use Rattle.generated_law.specs.GeneratedLaw.{LinkLaw}
use Rattle.generated_law.proofs.{Pool.holds, UsedEntries.none_first, UsedEntries.field_target_is, UsedEntries.print_target_is, UsedEntries.no_reference_fault}
use Rattle.generated_law.proofs.Members.{class_is, method_is, holds_builtins, object_is, object_above, object_interfaces, method_found}
use Rattle.generated_law.proofs.Assembling.{gen_names, own_number, object_number, assembled_is, gen_skeleton, gen_setting, skeleton_is, setting_is}

-- ---- names and supertypes

no_duplicate : (k : ℕ) → duplicate_fault (generated_class k ∷ []) ≡ None
unfolding generated_class builtin_classes builtin_defs
no_duplicate k = refl

object_there : missing gen_names (codes "java/lang/Object") ≡ None
unfolding missing needed_class
object_there = ap (λ o. cond (is_none o) (Some (codes "java/lang/Object")) None) object_number

object_fits : (k : ℕ) → supertype_fits (gen_setting k) (generated_class k) 4 ≡ true
unfolding generated_class gen_program gen_names builtin_classes builtin_defs
object_fits k = refl

object_right : (k : ℕ) → supertype_fault (gen_setting k) (generated_class k) 4 ≡ None
unfolding supertype_fault generated_class
object_right k =
    let c = generated_class k in
    ap (λ o. missing_or c o (wrong_unless (supertype_fits (gen_setting k) c 4) c 4)) object_there ∙ ap (λ b. wrong_unless b c 4) (object_fits k)

other_right : (k i : ℕ) → nat_eq i 4 ≡ false → supertype_fault (gen_setting k) (generated_class k) i ≡ None
unfolding supertype_fault generated_class
other_right k i differ =
    let c = generated_class k in
    ap (λ b. cond (b || false) (missing_or c (missing gen_names (name_at c.pool i)) (wrong_unless (supertype_fits (gen_setting k) c i) c i)) None) differ

no_supertype_fault : (k : ℕ) → first_some (supertypes_fault (gen_setting k)) (generated_class k ∷ []) ≡ None
unfolding supertypes_fault
no_supertype_fault k =
    let c = generated_class k in
    let each : (i : ℕ) → supertype_fault (gen_setting k) c i ≡ None = λ i. by_test (nat_eq i 4) (λ yes. subst (λ j. supertype_fault (gen_setting k) c j ≡ None) (sym (eqb-true i 4 yes)) (object_right k)) (λ no. other_right k i no) in
    ap (λ o. elim o [ Some f ↦ Some f | None ↦ None ]) (none_first (supertype_fault (gen_setting k) c) 1 (length c.pool) (λ i _. each i))

-- ---- ancestors

not_direct : (p : Program) (c d : ℕ) → (class_at p c).superclass ≡ None → (class_at p c).interfaces ≡ [] → IsDirect p c d → ⊥
not_direct p c d e f (inl h) = cc
not_direct p c d e f (inr h) = let no : false ≡ true = sym (ap (λ is. member d is) f) ∙ h in cc

none_above : (p : Program) (c d : ℕ) → (class_at p c).superclass ≡ None → (class_at p c).interfaces ≡ [] → IsAncestor p c d → ⊥
none_above p c d e f (direct h) = not_direct p c d e f h
none_above p c d e f (further {d = x} h a) = not_direct p c x e f h

-- a class below a class that has none above is not above itself
only_direct : (p : Program) (c b d : ℕ) → (class_at p c).superclass ≡ Some b → (class_at p c).interfaces ≡ [] → IsDirect p c d → d ≡ b
only_direct p c b d e f (inl h) = cc
only_direct p c b d e f (inr h) = let no : false ≡ true = sym (ap (λ is. member d is) f) ∙ h in absurd cc

not_above_itself : (p : Program) (c b : ℕ) → (c ≡ b → ⊥) → (class_at p c).superclass ≡ Some b → (class_at p c).interfaces ≡ [] → (class_at p b).superclass ≡ None → (class_at p b).interfaces ≡ [] → IsAncestor p c c → ⊥
not_above_itself p c b differ e f g i (direct h) = differ (only_direct p c b c e f h)
not_above_itself p c b differ e f g i (further {d = x} h a) = none_above p b c g i (subst (λ y. IsAncestor p y c) (only_direct p c b x e f h) a)

count_classes : (body : ℕ → Body) (k : ℕ) (tests : List TestEntry) → length (gen_program body k tests).classes ≤ 33
unfolding gen_program
count_classes body k tests = omega (arith, length-append builtin_classes (gen_class k ∷ []), lengths.0)

no_cycle : (body : ℕ → Body) (k : ℕ) (tests : List TestEntry) → IsFirstCycle (gen_program body k tests) None
no_cycle body k tests =
    let p = gen_program body k tests in
    let own = class_is body k tests in
    let object = object_is body k tests in
    let top = not_above_itself p 32 0 (λ e. omega (arith, e)) (ap (λ (c : ClassRec). c.superclass) own) (ap (λ (c : ClassRec). c.interfaces) own) (ap (λ (c : ClassRec). c.superclass) object ∙ object_above) (ap (λ (c : ClassRec). c.interfaces) object ∙ object_interfaces) in
    none_all p 33 (count_classes body k tests) (none_more p 32 (none_builtin p (holds_builtins body k tests).classes) top)

-- ---- tests

test_is : (k i : ℕ) → 1 ≤ i → i ≤ k → k ≤ 1024 → test_entry (gen_setting k) 1000000 (line_of (said_test i)) ≡ Some (gen_test i)
unfolding test_entry
test_is k i low few small =
    let p = gen_skeleton k in
    let line = line_of (said_test i) in
    let made = λ (m : ℕ). cond (is_test_method p 32 m) (Some (entry_with 1000000 line 32 m)) None in
    let instances : holds_tests p 32 ≡ true = ap (λ (c : ClassRec). not (is_abstract c.flags || is_interface c.flags)) (class_is _ k []) in
    let static : is_test_method p 32 (method_number i) ≡ true = ap (λ (x : MethodRec). is_some x.body && (is_static x.flags || is_some (plain_method_in p init_name (class_at p 32).methods))) (method_is _ k [] i low few) in
    ap (option_and_then (test_in p 1000000 line)) own_number
    ∙ (ap (λ b. cond b (option_and_then made (test_method p 32 (method_name i))) None) instances
    ∙ (ap (option_and_then made) (method_found _ k [] i low few small) ∙ ap (λ b. cond b (Some (entry_with 1000000 line 32 (method_number i))) None) static))

tests_are : (k : ℕ) → k ≤ 1024 → (front : List TestEntry) (a n : ℕ) → 1 ≤ a → a + n ≤ k + 1 → tests_of (gen_setting k) 1000000 front (map line_of (map said_test (range_with_len a n))) ≡ Ok (front ++ map gen_test (range_with_len a n))
tests_are k small front a zero low few = ap Ok (sym (append-nil front))
tests_are k small front a (suc n) low few =
    let more = map line_of (map said_test (range_with_len (a + 1) n)) in
    ap (λ o. elim o [ None ↦ Err (fault.NotATest (length front + 1)) | Some t ↦ tests_of (gen_setting k) 1000000 (front ++ t ∷ []) more ]) (test_is k a low (omega (arith, few)) small)
    ∙ (tests_are k small (front ++ gen_test a ∷ []) (a + 1) n (omega arith) (omega (arith, few)) ∙ ap Ok (append_assoc front (gen_test a ∷ []) (map gen_test (range_with_len (a + 1) n))))

-- ---- bodies

-- the target of a field's instruction
field_of_index : (k : ℕ) → k ≤ 1024 → (g : ℕ) → g < group_count k → target_of (gen_setting k) (slots k) (entry_of (slots k) (field_entry g % 65536)) ≡ Some (target.Field 32 (field_number g))
field_of_index k small g few =
    let e : field_entry g % 65536 ≡ field_entry g = mod-eq_of_lt (omega (arith, few, small)) in
    ap (λ i. target_of (gen_setting k) (slots k) (entry_of (slots k) i)) e ∙ field_target_is k (slots k) (holds k) g few small

put_form : (f e : ℕ) (pc : ℕ) → form_of (Some (target.Field 32 f)) (op pc 179 (pos e ∷ [])) ≡ form.PutStatic f
unfolding form_of members
put_form f e pc = refl

get_form : (f e : ℕ) (pc : ℕ) → form_of (Some (target.Field 32 f)) (op pc 178 (pos e ∷ [])) ≡ form.GetStatic f
unfolding form_of members
get_form f e pc = refl

call_form : (m e : ℕ) (pc : ℕ) → form_of (Some (target.Method (kind.Class 6) m)) (op pc 184 (pos e ∷ [])) ≡ form.InvokeStatic m
unfolding form_of members
call_form m e pc = refl

by_place : (k : ℕ) → k ≤ 1024 → (i : ℕ) → group_of i < group_count k → (first third : Bool)
    → linked_body (gen_setting k) (slots k) (cond first (generated.setting i) (cond third (generated.adding i) (generated.printing i)))
    ≡ cond first (setting_body (field_number (group_of i)) i) (cond third (adding_body (field_number (group_of i)) i) (printing_body (field_number (group_of i))))
unfolding linked_body form_of constants numbers branches
by_place k small i few true third =
    let f = field_number (group_of i) in
    let e = field_entry (group_of i) in
    let put : form_of (target_of (gen_setting k) (slots k) (entry_of (slots k) (e % 65536))) (op 3 179 (pos e ∷ [])) ≡ form.PutStatic f = ap (λ t. form_of t (op 3 179 (pos e ∷ []))) (field_of_index k small (group_of i) few) ∙ put_form f e 3 in
    λ j. record { max_stack = 1; max_locals = 0; length = 7; code = placed 0 (form.Const (value.Int (pos i))) ∷ placed 3 (put j) ∷ placed 6 (form.Return None) ∷ []; handlers = []; frames = []; malformed = false }
by_place k small i few false true =
    let f = field_number (group_of i) in
    let e = field_entry (group_of i) in
    let get : form_of (target_of (gen_setting k) (slots k) (entry_of (slots k) (e % 65536))) (op 0 178 (pos e ∷ [])) ≡ form.GetStatic f = ap (λ t. form_of t (op 0 178 (pos e ∷ []))) (field_of_index k small (group_of i) few) ∙ get_form f e 0 in
    let put : form_of (target_of (gen_setting k) (slots k) (entry_of (slots k) (e % 65536))) (op 7 179 (pos e ∷ [])) ≡ form.PutStatic f = ap (λ t. form_of t (op 7 179 (pos e ∷ []))) (field_of_index k small (group_of i) few) ∙ put_form f e 7 in
    λ j. record {
      max_stack = 2;
      max_locals = 0;
      length = 11;
      code = placed 0 (get j) ∷ placed 3 (form.Const (value.Int (pos i))) ∷ placed 6 (form.Binary operation.Add false) ∷ placed 7 (put j) ∷ placed 10 (form.Return None) ∷ [];
      handlers = [];
      frames = [];
      malformed = false;
    }
by_place k small i few false false =
    let f = field_number (group_of i) in
    let e = field_entry (group_of i) in
    let get : form_of (target_of (gen_setting k) (slots k) (entry_of (slots k) (e % 65536))) (op 0 178 (pos e ∷ [])) ≡ form.GetStatic f = ap (λ t. form_of t (op 0 178 (pos e ∷ []))) (field_of_index k small (group_of i) few) ∙ get_form f e 0 in
    let call : form_of (target_of (gen_setting k) (slots k) (entry_of (slots k) 13)) (op 3 184 (pos 13 ∷ [])) ≡ form.InvokeStatic print_number = ap (λ t. form_of t (op 3 184 (pos 13 ∷ []))) (print_target_is k (slots k) (holds k)) ∙ call_form print_number 13 3 in
    λ j. record { max_stack = 1; max_locals = 0; length = 7; code = placed 0 (get j) ∷ placed 3 (call j) ∷ placed 6 (form.Return None) ∷ []; handlers = []; frames = []; malformed = false }

bodies_are : (k : ℕ) → k ≤ 1024 → (a n : ℕ) → 1 ≤ a → a + n ≤ k + 1 → map (gen_method (λ i. linked_body (gen_setting k) (slots k) (code_of i))) (range_with_len a n) ≡ map (gen_method gen_body) (range_with_len a n)
bodies_are k small a zero low few = refl
bodies_are k small a (suc n) low few =
    let one : gen_method (λ i. linked_body (gen_setting k) (slots k) (code_of i)) a ≡ gen_method gen_body a = ap (λ b. record { class = 32; name = method_name a; descriptor = codes "()V"; flags = 9; native = None; body = Some b }) (by_place k small a (omega (arith, low, few)) _ _) in
    let more = bodies_are k small (a + 1) n (omega arith) (omega (arith, few)) in
    λ j. one j ∷ more j

same_methods : (k : ℕ) (tests : List TestEntry) → map (gen_method (λ i. linked_body (gen_setting k) (slots k) (code_of i))) (range_with_len 1 k) ≡ map (gen_method gen_body) (range_with_len 1 k)
    → gen_program (λ i. linked_body (gen_setting k) (generated_class k).pool (code_of i)) k tests ≡ gen_program gen_body k tests
unfolding gen_program generated_class
same_methods k tests e = ap (λ ms. record { classes = builtin_classes ++ gen_class k ∷ []; fields = builtin_fields ++ map gen_field (range_with_len 0 (group_count k)); methods = builtin_methods ++ ms; literals = []; tests = tests; files = [] }) e

program_is : (k : ℕ) → k ≤ 1024 → program_of (generated_class k ∷ []) (map gen_test (range_with_len 1 k)) [] ≡ generated_program k
program_is k small =
    let tests = map gen_test (range_with_len 1 k) in
    ap (λ s. assembled (λ c code. linked_body s c.pool code) (generated_class k ∷ []) tests []) (setting_is k)
    ∙ (assembled_is (λ c code. linked_body (gen_setting k) c.pool code) k tests ∙ same_methods k tests (bodies_are k small 1 k (omega arith) (omega arith)))

-- ---- linking

passes : {A : Type 0} (o : Option LinkFault) (r : Result A LinkFault) → o ≡ None → (unless o >>= λ _. r) ≡ r
passes o r e = ap (λ x. unless x >>= λ _. r) e

linked : (k : ℕ) → k ≤ 1024 → link_by None (generated_class k ∷ []) (lines_of (said_suite k)) ≡ Ok (generated_program k)
unfolding link_by said_suite
linked k small =
    let cs = generated_class k ∷ [] in
    let tests = map gen_test (range_with_len 1 k) in
    let lines = map line_of (map said_test (range_with_len 1 k)) in
    let supertypes = ap (λ s. first_some (supertypes_fault s) cs) (setting_is k) ∙ no_supertype_fault k in
    let references = ap (λ s. all_references_fault s 32 cs) (setting_is k) ∙ no_reference_fault k small in
    let entries = ap (λ s. tests_of s 1000000 [] lines) (setting_is k) ∙ tests_are k small [] 1 k (omega arith) (omega arith) in
    passes (duplicate_fault cs) _ (no_duplicate k)
    ∙ (passes (first_some (supertypes_fault (setting cs)) cs) _ supertypes
    ∙ (passes (all_references_fault (setting cs) 32 cs) _ references
    ∙ (ap (λ r. r >>= λ ts. Ok (program_of cs ts [])) entries ∙ ap Ok (program_is k small))))

pub link_law : LinkLaw
link_law k small =
    let cycle : IsFirstCycle (skeleton (generated_class k ∷ [])) None = subst (λ p. IsFirstCycle p None) (sym (skeleton_is k)) (no_cycle _ k []) in
    ((λ _ _. cycle), sym (linked k small))
