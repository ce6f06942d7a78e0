-- The class of k tests is linked to the generated program's records, names and literals.
use Rattle.std.proofs.Common.{◌≡◌, ℕ, zero, suc, ◌+◌, ◌*◌, ◌<◌, ◌≤◌, true, false, ◌&&◌, cond, pos, unwrap_or, List, [], ◌∷◌, ◌++◌, length, map, flat_map, decimal, Some, None, refl, ap, ◌∙◌, arith, append-nil}
use Rattle.std.specs.Prelude.{codes}
use Rattle.std.specs.{List.AllByRecursion, List.range_with_len, Str.bytes_eq}
use Rattle.std.proofs.lemmas.List.FromFn.{length-map-range_with_len}
use Rattle.class_pool.specs.Pool.{text_of}
use Rattle.class_reader.specs.declared.parts.{ClassParts.ClassParts, CodePart.CodePart}
use Rattle.jvm_model.specs.declared.values.Value.TheVariants as value
use Rattle.jvm_model.specs.declared.program.{Program.Program, ClassRec.ClassRec, Body.Body, TestEntry.TestEntry}
use Rattle.jvm_model.specs.Library.{builtin_defs, builtin_classes, builtin_fields, builtin_methods}
use Rattle.jvm_model.specs.{Classes.is_static, Classes.clinit_name, Driver.no_arguments}
use Rattle.jvm_model.proofs.BuiltinRules.{lengths}
use Rattle.class_link.specs.ClassNames.{text_at, all_names, class_number, number_or_first, needed_class}
use Rattle.class_link.specs.{Literals.string_in, Literals.strings_of, Literals.noted, Literals.literals, Link.setting}
use Rattle.class_link.specs.Assembly.{mentions, is_initialiser, initialiser_from, class_rec, opening, field_rec, method_rec, assembled, bare_body, skeleton}
use Rattle.class_link.specs.declared.link_environment.LinkEnvironment.{LinkEnvironment}
use Rattle.suite_gen.specs.Generated.{group_count, slots, code_of, field_of, method_of, test_name, generated_class}
use Rattle.generated_law.specs.GeneratedSuite.{method_name, gen_class, gen_field, gen_method, gen_program}
use Rattle.generated_law.proofs.Pool.{Slots, Holds, holds, each_slot}

-- ---- names

-- the names of all classes
unfoldable pub gen_names : List (List ℕ)
gen_names = map (λ (c : ClassRec). c.name) builtin_classes ++ codes "Gen" ∷ []

names_are : (k : ℕ) → all_names (generated_class k ∷ []) ≡ gen_names
unfolding all_names generated_class gen_names
names_are k = refl

pub own_number : class_number gen_names (codes "Gen") ≡ Some 32
unfolding gen_names builtin_classes builtin_defs
own_number = refl

pub object_number : class_number gen_names (codes "java/lang/Object") ≡ Some 0
unfolding gen_names builtin_classes builtin_defs
object_number = refl

pub env_number : class_number gen_names (codes "electric/Env") ≡ Some 6
unfolding gen_names builtin_classes builtin_defs
env_number = refl

-- ---- the class

no_initialiser : (k : ℕ) (s : Slots) → Holds k s → (m a n : ℕ) → 1 ≤ a → a + n ≤ k + 1 → initialiser_from m s (map (method_of k) (range_with_len a n)) ≡ None
no_initialiser k s h m a zero low few = refl
no_initialiser k s h m a (suc n) low few =
    let none : is_initialiser s (method_of k a) ≡ false = ap (λ o. is_static 9 && (bytes_eq (unwrap_or (text_of o) []) clinit_name && (bytes_eq (text_at s 7) no_arguments && true))) (h.test a low (omega (arith, few))) in
    ap (λ b. cond b (Some m) (initialiser_from (m + 1) s (map (method_of k) (range_with_len (a + 1) n)))) none ∙ no_initialiser k s h (m + 1) (a + 1) n (omega arith) (omega (arith, few))

mentions_are : (k : ℕ) → mentions gen_names (slots k) ≡ 32 ∷ []
unfolding gen_names builtin_classes builtin_defs needed_class
mentions_are k = refl

class_is : (k : ℕ) → class_rec gen_names 2 102 (generated_class k) ≡ gen_class k
unfolding generated_class
class_is k =
    let super : Some (number_or_first gen_names (codes "java/lang/Object")) ≡ Some 0 = ap (λ o. Some (unwrap_or o 0)) object_number in
    let fields : range_with_len 2 (length (map field_of (range_with_len 0 (group_count k)))) ≡ range_with_len 2 (group_count k) = ap (range_with_len 2) (length-map-range_with_len field_of 0 (group_count k)) in
    let methods : range_with_len 102 (length (map (method_of k) (range_with_len 1 k))) ≡ range_with_len 102 k = ap (range_with_len 102) (length-map-range_with_len (method_of k) 1 k) in
    let none = no_initialiser k (slots k) (holds k) 102 1 k (omega arith) (omega arith) in
    let mentioned = mentions_are k in
    λ j. record { name = codes "Gen"; version = 52; flags = 33; superclass = super j; interfaces = []; fields = fields j; methods = methods j; initialiser = none j; mentions = mentioned j }

class_made : (k : ℕ) → class_rec (all_names (generated_class k ∷ [])) (length builtin_fields) (length builtin_methods) (generated_class k) ≡ gen_class k
class_made k =
    let c = generated_class k in
    ap (λ ns. class_rec ns (length builtin_fields) (length builtin_methods) c) (names_are k)
    ∙ (ap (λ f. class_rec gen_names f (length builtin_methods) c) lengths.1 ∙ (ap (λ m. class_rec gen_names 2 m c) lengths.2 ∙ class_is k))

-- ---- fields and methods

opens : (texts : List (List ℕ)) (k g : ℕ) → opening texts (slots k) (field_of g) ≡ value.Int (pos 0)
unfolding opening
opens texts k g = refl

field_made : (texts : List (List ℕ)) (k g : ℕ) → g < group_count k → field_rec texts (slots k) 32 (field_of g) ≡ gen_field g
field_made texts k g few =
    let name : text_at (slots k) (14 + 3 * g) ≡ codes "f" ++ decimal g = ap (λ o. unwrap_or (text_of o) []) ((holds k).name g few) in
    let opened = opens texts k g in
    λ j. record { class = 32; name = name j; descriptor = codes "I"; flags = 9; opening = opened j }

fields_made : (texts : List (List ℕ)) (k a n : ℕ) → a + n ≤ group_count k → map (field_rec texts (slots k) 32) (map field_of (range_with_len a n)) ≡ map gen_field (range_with_len a n)
fields_made texts k a zero few = refl
fields_made texts k a (suc n) few =
    let one = field_made texts k a (omega (arith, few)) in
    let more = fields_made texts k (a + 1) n (omega (arith, few)) in
    λ j. one j ∷ more j

method_made : (body : CodePart → Body) (k i : ℕ) → 1 ≤ i → i ≤ k → method_rec body (slots k) 32 (method_of k i) ≡ gen_method (λ n. body (code_of n)) i
method_made body k i low few =
    let name : text_at (slots k) (test_name k i) ≡ method_name i = ap (λ o. unwrap_or (text_of o) []) ((holds k).test i low few) in
    λ j. record { class = 32; name = name j; descriptor = codes "()V"; flags = 9; native = None; body = Some (body (code_of i)) }

methods_made : (body : CodePart → Body) (k a n : ℕ) → 1 ≤ a → a + n ≤ k + 1 → map (method_rec body (slots k) 32) (map (method_of k) (range_with_len a n)) ≡ map (gen_method (λ i. body (code_of i))) (range_with_len a n)
methods_made body k a zero low few = refl
methods_made body k a (suc n) low few =
    let one = method_made body k a low (omega (arith, few)) in
    let more = methods_made body k (a + 1) n (omega arith) (omega (arith, few)) in
    λ j. one j ∷ more j

-- ---- literals

none_flat : {A B : Type 0} (f : A → List B) (xs : List A) → AllByRecursion (λ x. f x ≡ []) xs → flat_map f xs ≡ []
none_flat f [] h = refl
none_flat f (x ∷ xs) h = ap (λ ys. ys ++ flat_map f xs) h.0 ∙ none_flat f xs h.1

no_strings : (k : ℕ) → strings_of (slots k) ≡ []
no_strings k =
    none_flat (string_in (slots k)) (slots k)
    (each_slot (λ slot. string_in (slots k) slot ≡ []) k (refl, (refl, (refl, (refl, (refl, (refl, (refl, (refl, (refl, (refl, (refl, (refl, (refl, tt))))))))))))) (λ g less. (refl, (refl, (refl, tt)))) (λ i low. refl))

literals_are : (k : ℕ) → literals (generated_class k ∷ []) ≡ []
unfolding literals generated_class
literals_are k = ap (λ (texts : List (List ℕ)). noted [] (texts ++ [])) (no_strings k)

-- ---- the program, and what references are resolved with

pub assembled_is : (body : ClassParts → CodePart → Body) (k : ℕ) (tests : List TestEntry) → assembled body (generated_class k ∷ []) tests [] ≡ gen_program (λ i. body (generated_class k) (code_of i)) k tests
unfolding assembled gen_program generated_class
assembled_is body k tests =
    let c = generated_class k in
    let texts = literals (c ∷ []) in
    let own = class_made k in
    let fields = append-nil (map (field_rec texts (slots k) 32) (map field_of (range_with_len 0 (group_count k)))) ∙ fields_made texts k 0 (group_count k) (omega arith) in
    let methods = append-nil (map (method_rec (body c) (slots k) 32) (map (method_of k) (range_with_len 1 k))) ∙ methods_made (body c) k 1 k (omega arith) (omega arith) in
    let texts_are = literals_are k in
    λ j. record { classes = builtin_classes ++ own j ∷ []; fields = builtin_fields ++ fields j; methods = builtin_methods ++ methods j; literals = texts_are j; tests = tests; files = [] }

-- the skeleton's program
abbrev pub gen_skeleton : ℕ → Program
gen_skeleton k = gen_program (λ i. bare_body (code_of i)) k []

abbrev pub gen_setting : ℕ → LinkEnvironment
gen_setting k = record { program = gen_skeleton k; names = gen_names; texts = [] }

pub skeleton_is : (k : ℕ) → skeleton (generated_class k ∷ []) ≡ gen_skeleton k
skeleton_is k = assembled_is (λ c code. bare_body code) k []

pub setting_is : (k : ℕ) → setting (generated_class k ∷ []) ≡ gen_setting k
setting_is k =
    let program = skeleton_is k in
    let names = names_are k in
    let texts = literals_are k in
    λ j. record { program = program j; names = names j; texts = texts j }
