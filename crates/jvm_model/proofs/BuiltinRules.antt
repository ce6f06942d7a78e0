-- What the computed tests of the built-in tables say of the built-in part of a program.
use Rattle.std.proofs.Common.{◌≡◌, ℕ, zero, suc, ◌<◌, ◌≤◌, List, [], ◌∷◌, length, get_or, take, Bool, true, ◌&&◌, nat_lt, is_none, refl, sym, ◌∙◌, ap, arith, Option, Some, None, IfSome, All}
use Rattle.std.specs.List.{list_all}
use Rattle.std.proofs.lemmas.{Bool.and_parts, Bool.ltb-true, List.get_or-take, List.length-take}
use Rattle.jvm_model.specs.declared.program.{Program.Program, ClassRec.ClassRec, FieldRec.FieldRec, MethodRec.MethodRec}
use Rattle.jvm_model.specs.{Builtin.builtin_count, Library.builtin_defs, Library.builtin_classes, Library.builtin_fields, Library.builtin_methods}
use Rattle.jvm_model.specs.Classes.{no_class, no_field, no_method, class_at, field_at, method_at}
use Rattle.et_base.specs.Names.{is_class_name, is_unqualified, is_method_name, is_field_descriptor, is_method_descriptor, argument_units}
use Rattle.jvm_model.specs.Linked.{IsClass, IsMethod, HoldsBuiltins, NamesClass, has_room, opens}
use Rattle.jvm_model.proofs.Builtins.{class_names, field_forms, method_forms, method_room, field_openings}

-- what passes for each entry passes for one
pub all_at : {X : Type 0} (f : X → Bool) (xs : List X) (i : ℕ) (d : X) → list_all f xs ≡ true → i < length xs → f (get_or xs i d) ≡ true
all_at f [] i d e h = absurd (omega arith)
all_at f (x ∷ xs) zero d e h = (and_parts (f x) (list_all f xs) e).0
all_at f (x ∷ xs) (suc i) d e h = all_at f xs i d (and_parts (f x) (list_all f xs) e).1 (omega arith)

-- numbers below n are below m
all_below : (n m : ℕ) (xs : List ℕ) → list_all (λ x. nat_lt x n) xs ≡ true → n ≤ m → All (λ x. x < m) xs
all_below n m xs e h k d g = let q = ltb-true (get_or xs k d) n (all_at (λ x. nat_lt x n) xs k d e g) in omega arith

abbrev option_below : ℕ → Option ℕ → Bool
option_below n None = true
option_below n (Some x) = nat_lt x n

-- a method without code
abbrev is_bare_body : MethodRec → Bool
is_bare_body m = is_none m.body

some_below : (n m : ℕ) (o : Option ℕ) → option_below n o ≡ true → n ≤ m → IfSome o (λ x. x < m)
some_below n m None e h = tt
some_below n m (Some x) e h = let q = ltb-true x n e in omega arith

if_none : (P : ℕ → Type 0) (o : Option ℕ) → is_none o ≡ true → IfSome o P
if_none P None e = tt
if_none P (Some x) e = absurd (cc)

taken_short : {X : Type 0} (n : ℕ) (xs ys : List X) → take n xs ≡ ys → length ys ≡ n → n ≤ length xs
taken_short n xs ys e h = let a = length-take n xs in let b : length (take n xs) ≡ length ys = ap length e in omega arith

pub lengths : (length builtin_classes ≡ builtin_count) × (length builtin_fields ≡ 2) × (length builtin_methods ≡ 102)
unfolding builtin_classes builtin_fields builtin_methods builtin_defs
lengths = (refl, refl, refl)

-- each class's numbers name built-in entries, and none has an initialiser
abbrev class_rule : ClassRec → Bool
class_rule c = option_below 32 c.superclass && (list_all (λ x. nat_lt x 32) c.interfaces && (list_all (λ x. nat_lt x 2) c.fields && (list_all (λ x. nat_lt x 102) c.methods && (is_none c.initialiser && list_all (λ x. nat_lt x 32) c.mentions))))

class_rules : list_all class_rule builtin_classes ≡ true
unfolding builtin_classes builtin_defs
class_rules = refl

method_rules : list_all (λ m. nat_lt m.class 32 && is_bare_body m) builtin_methods ≡ true
unfolding builtin_methods builtin_defs
method_rules = refl

field_rules : list_all (λ f. nat_lt f.class 32) builtin_fields ≡ true
unfolding builtin_fields builtin_defs
field_rules = refl

module _ (p : Program) (h : HoldsBuiltins p) where
  -- the built-in entries of a program
  pub enough_classes : builtin_count ≤ length p.classes
  enough_classes = taken_short builtin_count p.classes builtin_classes h.classes lengths.0

  pub enough_fields : 2 ≤ length p.fields
  enough_fields = let a = taken_short (length builtin_fields) p.fields builtin_fields h.fields refl in let b = lengths.1 in omega arith

  pub enough_methods : 102 ≤ length p.methods
  enough_methods = let a = taken_short (length builtin_methods) p.methods builtin_methods h.methods refl in let b = lengths.2 in omega arith

  pub builtin_class : (c : ℕ) → c < builtin_count → class_at p c ≡ get_or builtin_classes c no_class
  builtin_class c g = sym (get_or-take builtin_count p.classes c no_class g) ∙ ap (λ xs. get_or xs c no_class) h.classes

  pub builtin_field : (f : ℕ) → f < 2 → field_at p f ≡ get_or builtin_fields f no_field
  builtin_field f g = let b = lengths.1 in sym (get_or-take (length builtin_fields) p.fields f no_field (omega arith)) ∙ ap (λ xs. get_or xs f no_field) h.fields

  pub builtin_method : (m : ℕ) → m < 102 → method_at p m ≡ get_or builtin_methods m no_method
  builtin_method m g = let b = lengths.2 in sym (get_or-take (length builtin_methods) p.methods m no_method (omega arith)) ∙ ap (λ xs. get_or xs m no_method) h.methods

  -- a property of each entry of a table is one of the program's entry
  pub class_keeps : (f : ClassRec → Bool) → list_all f builtin_classes ≡ true → (c : ℕ) → c < builtin_count → f (class_at p c) ≡ true
  class_keeps f e c g = let b = lengths.0 in ap f (builtin_class c g) ∙ all_at f builtin_classes c no_class e (omega arith)

  pub field_keeps : (k : FieldRec → Bool) → list_all k builtin_fields ≡ true → (f : ℕ) → f < 2 → k (field_at p f) ≡ true
  field_keeps k e f g = let b = lengths.1 in ap k (builtin_field f g) ∙ all_at k builtin_fields f no_field e (omega arith)

  pub method_keeps : (k : MethodRec → Bool) → list_all k builtin_methods ≡ true → (m : ℕ) → m < 102 → k (method_at p m) ≡ true
  method_keeps k e m g = let b = lengths.2 in ap k (builtin_method m g) ∙ all_at k builtin_methods m no_method e (omega arith)

  pub builtin_names : (c : ℕ) → c < builtin_count → NamesClass p (class_at p c)
  builtin_names c g =
      let x = class_at p c in
      let t = class_keeps class_rule class_rules c g in
      let a = and_parts (option_below 32 x.superclass) _ t in
      let b = and_parts (list_all (λ y. nat_lt y 32) x.interfaces) _ a.1 in
      let d = and_parts (list_all (λ y. nat_lt y 2) x.fields) _ b.1 in
      let e = and_parts (list_all (λ y. nat_lt y 102) x.methods) _ d.1 in
      let f = and_parts (is_none x.initialiser) (list_all (λ y. nat_lt y 32) x.mentions) e.1 in
      record {
        superclass = some_below 32 (length p.classes) x.superclass a.0 enough_classes;
        interfaces = all_below 32 (length p.classes) x.interfaces b.0 enough_classes;
        fields = all_below 2 (length p.fields) x.fields d.0 enough_fields;
        methods = all_below 102 (length p.methods) x.methods e.0 enough_methods;
        initialiser = if_none (λ m. IsMethod p m) x.initialiser f.0;
        mentions = all_below 32 (length p.classes) x.mentions f.1 enough_classes;
      }

  pub builtin_class_name : (c : ℕ) → c < builtin_count → is_class_name (class_at p c).name ≡ true
  builtin_class_name c g = class_keeps (λ x. is_class_name x.name) class_names c g

  pub builtin_field_forms : (f : ℕ) → f < 2 → (is_unqualified (field_at p f).name ≡ true) × (is_field_descriptor (field_at p f).descriptor ≡ true)
  builtin_field_forms f g = and_parts (is_unqualified (field_at p f).name) (is_field_descriptor (field_at p f).descriptor) (field_keeps (λ x. is_unqualified x.name && is_field_descriptor x.descriptor) field_forms f g)

  pub builtin_method_forms : (m : ℕ) → m < 102 → (is_method_name (method_at p m).name ≡ true) × (is_method_descriptor (method_at p m).descriptor ≡ true)
  builtin_method_forms m g = and_parts (is_method_name (method_at p m).name) (is_method_descriptor (method_at p m).descriptor) (method_keeps (λ x. is_method_name x.name && is_method_descriptor x.descriptor) method_forms m g)

  pub builtin_method_room : (m : ℕ) → m < 102 → has_room (method_at p m).flags (argument_units (method_at p m).descriptor) ≡ true
  builtin_method_room m g = method_keeps (λ x. has_room x.flags (argument_units x.descriptor)) method_room m g

  pub builtin_opens : (f : ℕ) → f < 2 → opens p (field_at p f).descriptor (field_at p f).opening ≡ true
  builtin_opens f g = field_keeps (λ x. opens p x.descriptor x.opening) (field_openings p) f g

  pub builtin_field_class : (f : ℕ) → f < 2 → IsClass p (field_at p f).class
  builtin_field_class f g = let q = ltb-true (field_at p f).class 32 (field_keeps (λ x. nat_lt x.class 32) field_rules f g) in let b = enough_classes in omega arith

  pub builtin_method_class : (m : ℕ) → m < 102 → IsClass p (method_at p m).class
  builtin_method_class m g = let t = and_parts (nat_lt (method_at p m).class 32) _ (method_keeps (λ x. nat_lt x.class 32 && is_bare_body x) method_rules m g) in let q = ltb-true (method_at p m).class 32 t.0 in let b = enough_classes in omega arith
