-- The classes, fields and methods of the generated program, whatever its bodies and tests are, and how they are looked up.
use Rattle.std.proofs.Common.{◌≡◌, ℕ, zero, suc, ◌+◌, ◌-◌, ◌<◌, ◌≤◌, Bool, true, false, ◌&&◌, cond, List, [], ◌∷◌, ◌++◌, length, map, flat_map, get_or, take, decimal, Some, None, refl, sym, ap, ◌∙◌, arith}
use Rattle.std.specs.Prelude.{codes, find}
use Rattle.std.specs.{List.range_with_len, Str.bytes_eq}
use Rattle.std.proofs.{Math.Seq.get_or-append_seam, Math.Seq.take-append_seam, lemmas.List.FromFn.get_or-map-range_with_len, lemmas.List.get_or-append-add}
use Rattle.et_base.proofs.Texts.{units_refl}
use Rattle.jvm_model.specs.declared.program.{Program.Program, ClassRec.ClassRec, FieldRec.FieldRec, MethodRec.MethodRec, Body.Body, TestEntry.TestEntry}
use Rattle.jvm_model.specs.Library.{builtin_defs, builtin_classes, builtin_fields, builtin_methods}
use Rattle.jvm_model.specs.Classes.{no_class, no_field, no_method, class_at, field_at, method_at, class_bound, upwards, upwards_in}
use Rattle.jvm_model.specs.Linked.{HoldsBuiltins, test_method}
use Rattle.jvm_model.specs.Lookup.{is_field, is_method, field_path, field_path_in, find_field, find_method}
use Rattle.jvm_model.proofs.BuiltinRules.{lengths, builtin_class}
use Rattle.suite_gen.specs.Generated.{group_count}
use Rattle.generated_law.specs.GeneratedSuite.{method_name, field_number, method_number, print_number, gen_class, gen_field, gen_method, gen_program}
use Rattle.generated_law.proofs.Decimals.{names_differ}

-- ---- entries by their numbers

pub class_is : (body : ℕ → Body) (k : ℕ) (tests : List TestEntry) → class_at (gen_program body k tests) 32 ≡ gen_class k
unfolding gen_program
class_is body k tests = ap (λ n. get_or (builtin_classes ++ gen_class k ∷ []) n no_class) (sym lengths.0) ∙ get_or-append_seam builtin_classes (gen_class k) [] no_class

pub field_is : (body : ℕ → Body) (k : ℕ) (tests : List TestEntry) (g : ℕ) → g < group_count k → field_at (gen_program body k tests) (field_number g) ≡ gen_field g
unfolding gen_program
field_is body k tests g few =
    let own = map gen_field (range_with_len 0 (group_count k)) in
    ap (λ n. get_or (builtin_fields ++ own) (n + g) no_field) (sym lengths.1)
    ∙ (get_or-append-add builtin_fields own g no_field ∙ get_or-map-range_with_len gen_field 0 (group_count k) g g no_field few (omega arith))

pub method_is : (body : ℕ → Body) (k : ℕ) (tests : List TestEntry) (i : ℕ) → 1 ≤ i → i ≤ k → method_at (gen_program body k tests) (method_number i) ≡ gen_method body i
unfolding gen_program
method_is body k tests i low few =
    let own = map (gen_method body) (range_with_len 1 k) in
    let place : method_number i ≡ length builtin_methods + (i - 1) = omega (arith, lengths.2, low) in
    ap (λ n. get_or (builtin_methods ++ own) n no_method) place
    ∙ (get_or-append-add builtin_methods own (i - 1) no_method ∙ get_or-map-range_with_len (gen_method body) 1 k (i - 1) i no_method (omega (arith, low, few)) (omega (arith, low)))

pub holds_builtins : (body : ℕ → Body) (k : ℕ) (tests : List TestEntry) → HoldsBuiltins (gen_program body k tests)
unfolding gen_program
holds_builtins body k tests = record {
  classes = ap (λ n. take n (builtin_classes ++ gen_class k ∷ [])) (sym lengths.0) ∙ take-append_seam builtin_classes (gen_class k ∷ []);
  fields = take-append_seam builtin_fields (map gen_field (range_with_len 0 (group_count k)));
  methods = take-append_seam builtin_methods (map (gen_method body) (range_with_len 1 k));
}

-- ---- a class and Object

pub object_above : (get_or builtin_classes 0 no_class).superclass ≡ None
unfolding builtin_classes builtin_defs
object_above = refl

pub object_interfaces : (get_or builtin_classes 0 no_class).interfaces ≡ []
unfolding builtin_classes builtin_defs
object_interfaces = refl

pub object_is : (body : ℕ → Body) (k : ℕ) (tests : List TestEntry) → class_at (gen_program body k tests) 0 ≡ get_or builtin_classes 0 no_class
object_is body k tests = builtin_class (gen_program body k tests) (holds_builtins body k tests) 0 (omega arith)

pub two_up : (p : Program) (n c d : ℕ) → (class_at p c).superclass ≡ Some d → (class_at p d).superclass ≡ None → upwards_in p (suc (suc n)) c ≡ c ∷ d ∷ []
two_up p n c d e f = ap (λ o. c ∷ (elim o [ None ↦ [] | Some x ↦ upwards_in p (suc n) x ])) e ∙ ap (λ o. c ∷ d ∷ (elim o [ None ↦ [] | Some x ↦ upwards_in p n x ])) f

pub upwards_is : (body : ℕ → Body) (k : ℕ) (tests : List TestEntry) → upwards (gen_program body k tests) 32 ≡ 32 ∷ 0 ∷ []
unfolding class_bound
upwards_is body k tests = two_up (gen_program body k tests) 1198 32 0 (ap (λ (c : ClassRec). c.superclass) (class_is body k tests)) (ap (λ (c : ClassRec). c.superclass) (object_is body k tests) ∙ object_above)

two_paths : (p : Program) (n c d : ℕ) → (class_at p c).superclass ≡ Some d → (class_at p c).interfaces ≡ [] → (class_at p d).superclass ≡ None → (class_at p d).interfaces ≡ [] → field_path_in p (suc (suc n)) c ≡ c ∷ d ∷ []
two_paths p n c d e none f nothing =
    ap (λ is. (c ∷ flat_map (λ i. field_path_in p (suc n) i) is) ++ (elim (class_at p c).superclass [ None ↦ [] | Some x ↦ field_path_in p (suc n) x ])) none
    ∙ (ap (λ o. c ∷ (elim o [ None ↦ [] | Some x ↦ field_path_in p (suc n) x ])) e
    ∙ (ap (λ is. c ∷ ((d ∷ flat_map (λ i. field_path_in p n i) is) ++ (elim (class_at p d).superclass [ None ↦ [] | Some x ↦ field_path_in p n x ]))) nothing
    ∙ ap (λ o. c ∷ d ∷ (elim o [ None ↦ [] | Some x ↦ field_path_in p n x ])) f))

path_is : (body : ℕ → Body) (k : ℕ) (tests : List TestEntry) → field_path (gen_program body k tests) 32 ≡ 32 ∷ 0 ∷ []
unfolding class_bound field_path
path_is body k tests =
    let own = class_is body k tests in
    let object = object_is body k tests in
    two_paths (gen_program body k tests) 1198 32 0 (ap (λ (c : ClassRec). c.superclass) own) (ap (λ (c : ClassRec). c.interfaces) own) (ap (λ (c : ClassRec). c.superclass) object ∙ object_above) (ap (λ (c : ClassRec). c.interfaces) object ∙ object_interfaces)

-- ---- the first of a range

find_first : (q : ℕ → Bool) (a n g : ℕ) (rest : List ℕ) → g < n → ((j : ℕ) → j < g → q (a + j) ≡ false) → q (a + g) ≡ true → find q (range_with_len a n ++ rest) ≡ Some (a + g)
find_first q a zero g rest few before at = absurd (omega (arith, few))
find_first q a (suc n) zero rest few before at =
    let begin : a ≡ a + 0 = omega arith in
    ap (λ b. cond b (Some a) (find q (range_with_len (a + 1) n ++ rest))) (ap q begin ∙ at) ∙ ap Some begin
find_first q a (suc n) (suc g) rest few before at =
    let begin : a ≡ a + 0 = omega arith in
    let next : (j : ℕ) → a + 1 + j ≡ a + suc j = λ j. omega arith in
    ap (λ b. cond b (Some a) (find q (range_with_len (a + 1) n ++ rest))) (ap q begin ∙ before 0 (omega arith))
    ∙ (find_first q (a + 1) n g rest (omega (arith, few)) (λ j less. ap q (next j) ∙ before (suc j) (omega (arith, less))) (ap q (next g) ∙ at) ∙ ap Some (next g))

-- ---- fields

abbrev same_field : FieldRec → List ℕ → Bool
same_field x name = bytes_eq x.name name && bytes_eq x.descriptor (codes "I")

pub field_found : (body : ℕ → Body) (k : ℕ) (tests : List TestEntry) (g : ℕ) → g < group_count k → k ≤ 1024 → find_field (gen_program body k tests) 32 (codes "f" ++ decimal g) (codes "I") ≡ Some (field_number g)
unfolding find_field
field_found body k tests g few small =
    let p = gen_program body k tests in
    let name = codes "f" ++ decimal g in
    let q = is_field p name (codes "I") in
    let object = (class_at p 0).fields ++ [] in
    let before : (j : ℕ) → j < g → q (2 + j) ≡ false = λ j less. ap (λ x. same_field x name) (field_is body k tests j (omega (arith, less, few))) ∙ ap (λ b. b && bytes_eq (codes "I") (codes "I")) (names_differ 102 j g less (omega (arith, few, small))) in
    let at : q (2 + g) ≡ true = ap (λ x. same_field x name) (field_is body k tests g few) ∙ ap (λ b. b && bytes_eq (codes "I") (codes "I")) (units_refl name) in
    ap (λ path. find q (flat_map (λ d. (class_at p d).fields) path)) (path_is body k tests)
    ∙ (ap (λ (c : ClassRec). find q (c.fields ++ object)) (class_is body k tests) ∙ find_first q 2 (group_count k) g object few before at)

-- ---- methods

abbrev same_method : MethodRec → List ℕ → Bool
same_method x name = bytes_eq x.name name && bytes_eq x.descriptor (codes "()V")

pub method_found : (body : ℕ → Body) (k : ℕ) (tests : List TestEntry) (i : ℕ) → 1 ≤ i → i ≤ k → k ≤ 1024 → test_method (gen_program body k tests) 32 (method_name i) ≡ Some (method_number i)
method_found body k tests i low few small =
    let p = gen_program body k tests in
    let name = method_name i in
    let q = is_method p name (codes "()V") in
    let object = (class_at p 0).methods ++ [] in
    let number : (j : ℕ) → 102 + j ≡ method_number (j + 1) = λ j. omega arith in
    let before : (j : ℕ) → j < i - 1 → q (102 + j) ≡ false = λ j less. ap q (number j)
    ∙ (ap (λ x. same_method x name) (method_is body k tests (j + 1) (omega arith) (omega (arith, less, few))) ∙ ap (λ b. b && bytes_eq (codes "()V") (codes "()V")) (names_differ 116 (j + 1) i (omega (arith, less)) (omega (arith, few, small)))) in
    let last : 102 + (i - 1) ≡ method_number i = omega (arith, low) in
    let at : q (102 + (i - 1)) ≡ true = ap q last ∙ (ap (λ x. same_method x name) (method_is body k tests i low few) ∙ ap (λ b. b && bytes_eq (codes "()V") (codes "()V")) (units_refl name)) in
    ap (λ path. find q (flat_map (λ d. (class_at p d).methods) path)) (upwards_is body k tests)
    ∙ (ap (λ (c : ClassRec). find q (c.methods ++ object)) (class_is body k tests) ∙ (find_first q 102 k (i - 1) object (omega (arith, low, few)) before at ∙ ap Some last))

pub print_found : (body : ℕ → Body) (k : ℕ) (tests : List TestEntry) → find_method (gen_program body k tests) 6 (codes "print") (codes "(I)V") ≡ Some print_number
unfolding gen_program builtin_classes builtin_methods builtin_defs find_method class_bound
print_found body k tests = refl
