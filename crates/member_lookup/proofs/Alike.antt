-- Two programs of the same classes and fields whose methods differ in their bodies alone: members are found alike in both.
use Rattle.std.proofs.Common.{◌≡◌, ℕ, zero, suc, List, [], ◌∷◌, ◌++◌, filter, Bool, not, ◌&&◌, cond, refl, ◌∙◌, ap, Option, Some, None}
use Rattle.std.specs.Prelude.{flat_map, find, is_some}
use Rattle.std.specs.{List.list_any, Str.bytes_eq}
use Rattle.std.proofs.Math.Path.{fun_ext}
use Rattle.jvm_model.specs.declared.{program.Program.Program, program.MethodRec.MethodRec, program.TestEntry.TestEntry, library.Native.Native}
use Rattle.jvm_model.specs.{Builtin.object_class, Driver.no_arguments, Driver.plain_method_in, Linked.test_method}
use Rattle.jvm_model.specs.Classes.{class_at, method_at, is_private, is_static, member, class_bound, upwards_in, upwards, is_below, lineage_in, own_interfaces, first_mentions}
use Rattle.jvm_model.specs.Lookup.{is_field, field_path_in, field_path, find_field, pedigree_in, superinterfaces, interface_methods, find_in_interfaces, one_or_first, find_declared, find_in_object, find_method}

-- a method but for its body: whether it has one
pub record Outline : Type 0 where
  pub class : ℕ
  pub name : List ℕ
  pub descriptor : List ℕ
  pub flags : ℕ
  pub native : Option Native
  pub coded : Bool

abbrev pub outline : MethodRec → Outline
outline m = record { class = m.class; name = m.name; descriptor = m.descriptor; flags = m.flags; native = m.native; coded = is_some m.body }

-- the program with other methods, tests and files
abbrev pub changed : Program → List MethodRec → List TestEntry → List (List ℕ × List ℕ) → Program
changed q ms tests files = record q { methods = ms; tests = tests; files = files }

module _ (q : Program) (ms : List MethodRec) (tests : List TestEntry) (files : List (List ℕ × List ℕ)) where
  abbrev p : Program
  p = changed q ms tests files

  -- ---- walks up the classes

  upwards_in_same : (k : ℕ) → upwards_in p k ≡ upwards_in q k
  upwards_in_same zero = refl
  upwards_in_same (suc k) = ap (λ (u : ℕ → List ℕ). λ (c : ℕ). c ∷ (elim (class_at q c).superclass as (λ o. List ℕ) [ None ↦ [] | Some d ↦ u d ])) (upwards_in_same k)

  pub upwards_same : (c : ℕ) → upwards p c ≡ upwards q c
  upwards_same c = ap (λ (u : ℕ → List ℕ). u c) (upwards_in_same class_bound)

  pub below_same : (c d : ℕ) → is_below p c d ≡ is_below q c d
  unfolding is_below
  below_same c d = ap (member d) (upwards_same c)

  lineage_same : (k : ℕ) → lineage_in p k ≡ lineage_in q k
  lineage_same zero = refl
  lineage_same (suc k) = ap (λ (u : ℕ → List ℕ). λ (i : ℕ). flat_map (λ j. u j) (class_at q i).interfaces ++ (i ∷ [])) (lineage_same k)

  own_interfaces_same : own_interfaces p ≡ own_interfaces q
  unfolding own_interfaces
  own_interfaces_same = ap (λ (u : ℕ → List ℕ). λ (c : ℕ). first_mentions (flat_map (λ j. u j) (class_at q c).interfaces)) (lineage_same class_bound)

  pedigree_same : (k : ℕ) → pedigree_in p k ≡ pedigree_in q k
  pedigree_same zero = refl
  pedigree_same (suc k) = ap (λ (u : ℕ → List ℕ). λ (i : ℕ). i ∷ flat_map (λ j. u j) (class_at q i).interfaces) (pedigree_same k)

  superinterfaces_same : (c : ℕ) → superinterfaces p c ≡ superinterfaces q c
  unfolding superinterfaces
  superinterfaces_same c =
      ap (λ (u : ℕ → List ℕ). flat_map (λ d. flat_map (λ i. u i) (class_at q d).interfaces) (upwards p c)) (pedigree_same class_bound)
      ∙ ap (λ (xs : List ℕ). flat_map (λ d. flat_map (λ i. pedigree_in q class_bound i) (class_at q d).interfaces) xs) (upwards_same c)

  field_path_same : (k : ℕ) → field_path_in p k ≡ field_path_in q k
  field_path_same zero = refl
  field_path_same (suc k) = ap (λ (u : ℕ → List ℕ). λ (c : ℕ). (c ∷ flat_map (λ i. u i) (class_at q c).interfaces) ++ (elim (class_at q c).superclass as (λ o. List ℕ) [ None ↦ [] | Some d ↦ u d ])) (field_path_same k)

  pub find_field_same : (c : ℕ) (name descriptor : List ℕ) → find_field p c name descriptor ≡ find_field q c name descriptor
  unfolding find_field field_path
  find_field_same c name descriptor = ap (λ (u : ℕ → List ℕ). find (λ n. is_field q name descriptor n) (flat_map (λ d. (class_at q d).fields) (u c))) (field_path_same class_bound)

  -- ---- methods

  module _ (same : (m : ℕ) → outline (method_at p m) ≡ outline (method_at q m)) where
    abbrev Outlines : Type 0
    Outlines = ℕ → Outline

    outlines : Program → Outlines
    outlines r m = outline (method_at r m)

    outlines_same : outlines p ≡ outlines q
    unfolding outlines
    outlines_same = fun_ext same

    abbrev named : List ℕ → List ℕ → Outline → Bool
    named name descriptor x = bytes_eq x.name name && bytes_eq x.descriptor descriptor

    pub find_declared_same : (name descriptor : List ℕ) (cs : List ℕ) → find_declared p name descriptor cs ≡ find_declared q name descriptor cs
    unfolding outlines
    find_declared_same name descriptor cs = ap (λ (o : Outlines). find (λ n. named name descriptor (o n)) (flat_map (λ d. (class_at q d).methods) cs)) outlines_same

    find_in_object_same : (name descriptor : List ℕ) → find_in_object p name descriptor ≡ find_in_object q name descriptor
    unfolding outlines
    find_in_object_same name descriptor = ap (λ (o : Outlines). find (λ n. named name descriptor (o n) && not (is_static (o n).flags)) (class_at q object_class).methods) outlines_same

    abbrev open_ones : List ℕ → List ℕ → Outlines → List ℕ → List ℕ
    open_ones name descriptor o is = filter (λ n. named name descriptor (o n) && (not (is_private (o n).flags) && not (is_static (o n).flags))) (flat_map (λ i. (class_at q i).methods) is)

    interface_methods_same : (c : ℕ) (name descriptor : List ℕ) → interface_methods p c name descriptor ≡ interface_methods q c name descriptor
    unfolding outlines
    interface_methods_same c name descriptor =
        ap (λ (o : Outlines). open_ones name descriptor o (superinterfaces p c)) outlines_same
        ∙ ap (open_ones name descriptor (outlines q)) (superinterfaces_same c)

    abbrev kept_by : (ℕ → List ℕ) → Outlines → List ℕ → List ℕ
    kept_by own o xs = filter (λ x. not (list_any (λ n. member (o x).class (own (o n).class)) xs)) xs

    abbrev with_code : Outlines → List ℕ → List ℕ
    with_code o xs = filter (λ n. (o n).coded) xs

    find_in_interfaces_same : (c : ℕ) (name descriptor : List ℕ) → find_in_interfaces p c name descriptor ≡ find_in_interfaces q c name descriptor
    unfolding find_in_interfaces outlines
    find_in_interfaces_same c name descriptor =
        ap (λ (o : Outlines). one_or_first (first_mentions (with_code o (kept_by (own_interfaces p) o (interface_methods p c name descriptor)))) (interface_methods p c name descriptor)) outlines_same
        ∙ (ap (λ (own : ℕ → List ℕ). one_or_first (first_mentions (with_code (outlines q) (kept_by own (outlines q) (interface_methods p c name descriptor)))) (interface_methods p c name descriptor)) own_interfaces_same
        ∙ ap (λ (xs : List ℕ). one_or_first (first_mentions (with_code (outlines q) (kept_by (own_interfaces q) (outlines q) xs))) xs) (interface_methods_same c name descriptor))

    pub find_method_same : (c : ℕ) (name descriptor : List ℕ) → find_method p c name descriptor ≡ find_method q c name descriptor
    unfolding find_method
    find_method_same c name descriptor =
        let a = find_declared_same name descriptor (c ∷ []) in
        let b = find_in_object_same name descriptor in
        let i = find_in_interfaces_same c name descriptor in
        let d = find_declared_same name descriptor (upwards p c) ∙ ap (λ (cs : List ℕ). find_declared q name descriptor cs) (upwards_same c) in
        rw (a, b, i, d) refl

    pub test_method_same : (c : ℕ) (name : List ℕ) → test_method p c name ≡ test_method q c name
    test_method_same c name = find_declared_same name no_arguments (upwards p c) ∙ ap (λ (cs : List ℕ). find_declared q name no_arguments cs) (upwards_same c)

    pub plain_method_same : (name xs : List ℕ) → plain_method_in p name xs ≡ plain_method_in q name xs
    unfolding outlines
    plain_method_same name [] = refl
    plain_method_same name (x ∷ xs) =
        ap (λ (o : Outlines). cond (not (is_static (o x).flags) && named name no_arguments (o x)) (Some x) (plain_method_in p name xs)) outlines_same
        ∙ ap (λ (r : Option ℕ). cond (not (is_static (method_at q x).flags) && named name no_arguments (outline (method_at q x))) (Some x) r) (plain_method_same name xs)
