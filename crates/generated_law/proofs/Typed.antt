-- The generated program is typed: the check finds no fault.
use Rattle.std.proofs.Common.{◌≡◌, ℕ, zero, suc, ◌+◌, ◌≤◌, Bool, true, false, cond, List, [], ◌∷◌, ◌++◌, map, drop, get_or, Some, None, refl, sym, ap, ◌∙◌, arith}
use Rattle.std.specs.Prelude.{codes}
use Rattle.std.specs.List.{range_with_len}
use Rattle.std.proofs.Math.Seq.{drop-append_seam}
use Rattle.jvm_model.specs.declared.program.{Program.Program, ClassRec.ClassRec, FieldRec.FieldRec, MethodRec.MethodRec, Body.Body}
use Rattle.jvm_model.specs.{Library.builtin_defs, Library.builtin_classes, Library.builtin_methods, Classes.no_method, Classes.field_at, Classes.method_at}
use Rattle.jvm_model.specs.Descriptors.{parameters, return_type}
use Rattle.jvm_model.proofs.BuiltinRules.{lengths, builtin_method}
use Rattle.type_frames.specs.{Frames.index_of, StackEffect.sides, Rules.broken, Given.entry_types, Given.body_frames, Given.given_frames}
use Rattle.type_frames.specs.Environment.{environment_of, given_at, is_target}
use Rattle.type_frames.specs.Typing.{incoming, breach_at, unsupported_field, unsupported_method, or_later, fields_fault, members_fault, code_fault, body_fault, method_fault, methods_fault, class_fault, classes_fault, check_fault}
use Rattle.suite_gen.specs.Generated.{group_of, group_count}
use Rattle.generated_law.specs.GeneratedSuite.{field_number, method_number, print_number, gen_class, gen_field, gen_method, gen_program, setting_body, printing_body, adding_body, gen_body, gen_test, generated_program}
use Rattle.generated_law.specs.GeneratedLaw.{TypedLaw}
use Rattle.generated_law.proofs.Members.{field_is, method_is, holds_builtins}

-- ---- the three bodies, in a static method without parameters and result

-- no instruction of the body is at fault, where m is such a method
abbrev NoFault : Program → MethodRec → Body → Type 0
NoFault p m b = (name : List ℕ) (j : ℕ) → code_fault p name j (environment_of p m b []) 0 b.code ≡ None

setting_right : (p : Program) (body : ℕ → Body) (n f i : ℕ) → (field_at p f).descriptor ≡ codes "I" → NoFault p (gen_method body n) (setting_body f i)
unfolding breach_at incoming given_at is_target index_of sides broken parameters return_type
setting_right p body n f i e name j = rw e refl

printing_right : (p : Program) (body : ℕ → Body) (n f : ℕ) → (field_at p f).descriptor ≡ codes "I" → (method_at p print_number).descriptor ≡ codes "(I)V" → (method_at p print_number).name ≡ codes "print" → NoFault p (gen_method body n) (printing_body f)
unfolding breach_at incoming given_at is_target index_of sides broken parameters return_type
printing_right p body n f e d m name j = rw (e, d, m) refl

adding_right : (p : Program) (body : ℕ → Body) (n f i : ℕ) → (field_at p f).descriptor ≡ codes "I" → NoFault p (gen_method body n) (adding_body f i)
unfolding breach_at incoming given_at is_target index_of sides broken parameters return_type
adding_right p body n f i e name j = rw e refl

-- ---- methods

print_descriptor : (get_or builtin_methods print_number no_method).descriptor ≡ codes "(I)V"
unfolding builtin_methods builtin_defs
print_descriptor = refl

print_name : (get_or builtin_methods print_number no_method).name ≡ codes "print"
unfolding builtin_methods builtin_defs
print_name = refl

by_place : (k : ℕ) (n f i : ℕ) → (field_at (generated_program k) f).descriptor ≡ codes "I" → (first third : Bool) → NoFault (generated_program k) (gen_method gen_body n) (cond first (setting_body f i) (cond third (adding_body f i) (printing_body f)))
by_place k n f i e true third = setting_right (generated_program k) gen_body n f i e
by_place k n f i e false true = adding_right (generated_program k) gen_body n f i e
by_place k n f i e false false =
    let print = builtin_method (generated_program k) (holds_builtins gen_body k (map gen_test (range_with_len 1 k))) print_number (omega arith) in
    printing_right (generated_program k) gen_body n f e (ap (λ (x : MethodRec). x.descriptor) print ∙ print_descriptor) (ap (λ (x : MethodRec). x.name) print ∙ print_name)

-- no stack map is given
given_none : (p : Program) (m : MethodRec) (first third : Bool) (f i : ℕ) → body_frames (cond first (setting_body f i) (cond third (adding_body f i) (printing_body f))) (entry_types p m) ≡ Some []
unfolding body_frames
given_none p m true third f i = refl
given_none p m false true f i = refl
given_none p m false false f i = refl

method_right : (k i : ℕ) → 1 ≤ i → i ≤ k → (name : List ℕ) (j : ℕ) → method_fault (generated_program k) name j (gen_method gen_body i) ≡ None
unfolding method_fault given_frames
method_right k i low few name j =
    let p = generated_program k in
    let m = gen_method gen_body i in
    let field = ap (λ (x : FieldRec). x.descriptor) (field_is gen_body k (map gen_test (range_with_len 1 k)) (group_of i) (omega (arith, low, few))) in
    ap (body_fault p name j m (gen_body i)) (given_none p m _ _ (field_number (group_of i)) i) ∙ by_place k i (field_number (group_of i)) i field _ _ name j

-- the methods of test a on, where test a is the jth method
methods_right : (k : ℕ) (name : List ℕ) (j a n b : ℕ) → 1 ≤ a → a + n ≤ k + 1 → b ≡ method_number a → methods_fault (generated_program k) name j (range_with_len b n) ≡ None
methods_right k name j a zero b low few at = refl
methods_right k name j a (suc n) b low few at =
    let p = generated_program k in
    let own : method_at p b ≡ gen_method gen_body a = ap (method_at p) at ∙ method_is gen_body k (map gen_test (range_with_len 1 k)) a low (omega (arith, few)) in
    ap (λ x. or_later (method_fault p name j x) (methods_fault p name (suc j) (range_with_len (b + 1) n))) own
    ∙ (ap (λ o. or_later o (methods_fault p name (suc j) (range_with_len (b + 1) n))) (method_right k a low (omega (arith, few)) name j)
    ∙ methods_right k name (suc j) (a + 1) n (b + 1) (omega arith) (omega (arith, few)) (omega (arith, at)))

-- ---- members

fields_right : (k : ℕ) (c : ClassRec) (a n b : ℕ) → a + n ≤ group_count k → b ≡ field_number a → fields_fault (generated_program k) c (range_with_len b n) ≡ None
fields_right k c a zero b few at = refl
fields_right k c a (suc n) b few at =
    let p = generated_program k in
    let own : field_at p b ≡ gen_field a = ap (field_at p) at ∙ field_is gen_body k (map gen_test (range_with_len 1 k)) a (omega (arith, few)) in
    ap (λ x. or_later (unsupported_field c x) (fields_fault p c (range_with_len (b + 1) n))) own ∙ fields_right k c (a + 1) n (b + 1) (omega (arith, few)) (omega (arith, at))

member_right : (k i : ℕ) → unsupported_method (gen_class k) (gen_method gen_body i) ≡ None
unfolding parameters return_type
member_right k i = refl

members_right : (k a n b : ℕ) → 1 ≤ a → a + n ≤ k + 1 → b ≡ method_number a → members_fault (generated_program k) (gen_class k) (range_with_len b n) ≡ None
members_right k a zero b low few at = refl
members_right k a (suc n) b low few at =
    let p = generated_program k in
    let c = gen_class k in
    let own : method_at p b ≡ gen_method gen_body a = ap (method_at p) at ∙ method_is gen_body k (map gen_test (range_with_len 1 k)) a low (omega (arith, few)) in
    ap (λ x. or_later (unsupported_method c x) (members_fault p c (range_with_len (b + 1) n))) own
    ∙ (ap (λ o. or_later o (members_fault p c (range_with_len (b + 1) n))) (member_right k a) ∙ members_right k (a + 1) n (b + 1) (omega arith) (omega (arith, few)) (omega (arith, at)))

-- ---- the program

class_right : (k : ℕ) → class_fault (generated_program k) (gen_class k) ≡ None
unfolding class_fault
class_right k =
    let p = generated_program k in
    let c = gen_class k in
    ap (λ o. or_later o (or_later (members_fault p c c.methods) (methods_fault p c.name 1 c.methods))) (fields_right k c 0 (group_count k) 2 (omega arith) (omega arith))
    ∙ (ap (λ o. or_later o (methods_fault p c.name 1 c.methods)) (members_right k 1 k 102 (omega arith) (omega arith) (omega arith)) ∙ methods_right k c.name 1 1 k 102 (omega arith) (omega arith) (omega arith))

given_is : (k : ℕ) → drop 32 (generated_program k).classes ≡ gen_class k ∷ []
unfolding gen_program
given_is k = ap (λ n. drop n (builtin_classes ++ gen_class k ∷ [])) (sym lengths.0) ∙ drop-append_seam builtin_classes (gen_class k ∷ [])

pub typed_law : TypedLaw
unfolding check_fault
typed_law k = ap (classes_fault (generated_program k)) (given_is k) ∙ ap (λ o. or_later o None) (class_right k)
