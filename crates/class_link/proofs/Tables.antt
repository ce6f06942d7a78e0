-- What the tables of the built-in classes, fields and methods keep, entry by entry: tests that are computed.
use Rattle.std.proofs.Common.{◌≡◌, ℕ, zero, suc, ◌+◌, ◌<◌, List, [], ◌∷◌, length, get_or, Bool, true, false, not, ◌&&◌, ◌||◌, nat_eq, nat_lt, refl, subst, arith, None, map}
use Rattle.std.specs.Prelude.{is_some, is_none}
use Rattle.std.specs.{List.list_all, List.list_any, Str.bytes_eq}
use Rattle.std.proofs.lemmas.Bool.{and_parts, not-true, or_parts}
use Rattle.jvm_model.specs.{declared.program.ClassRec.ClassRec, declared.program.FieldRec.FieldRec, declared.program.MethodRec.MethodRec, Builtin.builtin_count}
use Rattle.jvm_model.specs.{Linked.count, Library.builtin_defs, Library.builtin_classes, Library.builtin_fields, Library.builtin_methods}
use Rattle.jvm_model.specs.Classes.{no_class, no_field, no_method, is_static, default_of}
use Rattle.jvm_model.proofs.Builtins.{builtin_methods_differ}
use Rattle.class_link.specs.Literals.{noted}

-- ---- tests of each entry

-- each entry passes a test that takes its number
abbrev pub all_from : {X : Type 0} → (ℕ → X → Bool) → ℕ → List X → Bool
all_from test n [] = true
all_from test n (x ∷ xs) = test n x && all_from test (n + 1) xs

all_behind : {X : Type 0} (test : ℕ → X → Bool) (n : ℕ) (xs : List X) (i : ℕ) (d : X) → all_from test n xs ≡ true → i < length xs → test (n + i) (get_or xs i d) ≡ true
all_behind test n [] i d e h = absurd (omega arith)
all_behind test n (x ∷ xs) zero d e h = let z : n + 0 ≡ n = omega arith in rw z (and_parts (test n x) (all_from test (n + 1) xs) e).0
all_behind test n (x ∷ xs) (suc i) d e h = let z : n + suc i ≡ (n + 1) + i = omega arith in rw z (all_behind test (n + 1) xs i d (and_parts (test n x) (all_from test (n + 1) xs) e).1 (omega arith))

pub all_from_at : {X : Type 0} (test : ℕ → X → Bool) (xs : List X) (i : ℕ) (d : X) → all_from test 0 xs ≡ true → i < length xs → test i (get_or xs i d) ≡ true
all_from_at test xs i d e h = let z : 0 + i ≡ i = omega arith in subst (λ n. test n (get_or xs i d) ≡ true) z (all_behind test 0 xs i d e h)

-- no two entries are the same
abbrev pub all_differ : {X : Type 0} → (X → X → Bool) → List X → Bool
all_differ same [] = true
all_differ same (x ∷ xs) = not (list_any (λ y. same x y) xs) && all_differ same xs

pub none_at : {X : Type 0} (test : X → Bool) (xs : List X) (i : ℕ) (d : X) → list_any test xs ≡ false → i < length xs → test (get_or xs i d) ≡ false
none_at test [] i d e h = absurd (omega arith)
none_at test (x ∷ xs) zero d e h = (or_parts (test x) (list_any test xs) e).0
none_at test (x ∷ xs) (suc i) d e h = none_at test xs i d (or_parts (test x) (list_any test xs) e).1 (omega arith)

pub all_differ_at : {X : Type 0} (same : X → X → Bool) (xs : List X) (i j : ℕ) (d : X) → all_differ same xs ≡ true → i < j → j < length xs → same (get_or xs i d) (get_or xs j d) ≡ false
all_differ_at same [] i j d e h g = absurd (omega arith)
all_differ_at same (x ∷ xs) i zero d e h g = absurd (omega arith)
all_differ_at same (x ∷ xs) zero (suc j) d e h g = none_at (λ y. same x y) xs j d (not-true _ (and_parts (not (list_any (λ y. same x y) xs)) (all_differ same xs) e).0) (omega arith)
all_differ_at same (x ∷ xs) (suc i) (suc j) d e h g = all_differ_at same xs i j d (and_parts (not (list_any (λ y. same x y) xs)) (all_differ same xs) e).1 (omega arith) (omega arith)

-- ---- the tables

-- each number in a class's list is that of a built-in member of the class
abbrev pub owns_members : {X : Type 0} → (X → ℕ) → (ClassRec → List ℕ) → List X → X → ℕ → ClassRec → Bool
owns_members class members xs none c r = list_all (λ j. nat_lt j (length xs) && nat_eq (class (get_or xs j none)) c) (members r)

pub fields_owned : all_from (owns_members (λ x. x.class) (λ r. r.fields) builtin_fields no_field) 0 builtin_classes ≡ true
unfolding builtin_classes builtin_fields builtin_defs
fields_owned = refl

pub methods_owned : all_from (owns_members (λ x. x.class) (λ r. r.methods) builtin_methods no_method) 0 builtin_classes ≡ true
unfolding builtin_classes builtin_methods builtin_defs
methods_owned = refl

-- a member is one of a built-in class, which lists it once
abbrev pub is_once : {X : Type 0} → (X → ℕ) → (ClassRec → List ℕ) → ℕ → X → Bool
is_once class members j x = nat_lt (class x) builtin_count && nat_eq (count j (members (get_or builtin_classes (class x) no_class))) 1

pub fields_once : all_from (is_once (λ x. x.class) (λ r. r.fields)) 0 builtin_fields ≡ true
unfolding builtin_classes builtin_fields builtin_defs
fields_once = refl

pub methods_once : all_from (is_once (λ x. x.class) (λ r. r.methods)) 0 builtin_methods ≡ true
unfolding builtin_classes builtin_methods builtin_defs
methods_once = refl

-- a class has no initialiser, and if it isn't the first a superclass
abbrev pub is_under : ℕ → ClassRec → Bool
is_under c x = is_none x.initialiser && (is_some x.superclass || nat_eq c 0)

pub classes_under : all_from is_under 0 builtin_classes ≡ true
unfolding builtin_classes builtin_defs
classes_under = refl

-- members of one class, name and descriptor
abbrev pub Tag : Type 0
Tag = ℕ × List ℕ × List ℕ

abbrev pub same_tag : Tag → Tag → Bool
same_tag s t = nat_eq s.0 t.0 && (bytes_eq s.1 t.1 && bytes_eq s.2 t.2)

abbrev pub field_tag : FieldRec → Tag
field_tag x = (x.class, x.name, x.descriptor)

abbrev pub method_tag : MethodRec → Tag
method_tag x = (x.class, x.name, x.descriptor)

pub fields_differ : all_differ (λ x y. same_tag (field_tag x) (field_tag y)) builtin_fields ≡ true
unfolding builtin_fields builtin_defs
fields_differ = refl

pub methods_differ : all_differ (λ x y. same_tag (method_tag x) (method_tag y)) builtin_methods ≡ true
methods_differ = builtin_methods_differ

-- Object has no superclass
pub top : (get_or builtin_classes 0 no_class).superclass ≡ None
unfolding builtin_classes builtin_defs
top = refl

-- the built-in field of instances opens with null
pub instance_opening : (f : ℕ) → f < 2 → is_static (get_or builtin_fields f no_field).flags ≡ false → (get_or builtin_fields f no_field).opening ≡ default_of (get_or builtin_fields f no_field).descriptor
unfolding builtin_fields builtin_defs
instance_opening zero h e = absurd (cc)
instance_opening (suc zero) h e = refl
instance_opening (suc (suc f)) h e = absurd (omega arith)

-- the names of the built-in classes differ
pub builtins_differ : noted [] (map (λ c. c.name) builtin_classes) ≡ map (λ c. c.name) builtin_classes
unfolding builtin_classes builtin_defs
builtins_differ = refl
