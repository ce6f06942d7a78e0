-- The built-in classes keep the rules of a linked program: tests over the whole tables, computed.
use Rattle.std.proofs.Common.{◌≡◌, ℕ, List, [], ◌∷◌, ◌+◌, length, get_or, Bool, true, ◌&&◌, not, nat_eq, nat_lt, refl, Option, Some, None}
use Rattle.std.specs.{List.list_all, List.list_any, Str.bytes_eq}
use Rattle.jvm_model.specs.{declared.program.Program.Program, declared.program.ClassRec.ClassRec, declared.program.MethodRec.MethodRec, Builtin.builtin_count}
use Rattle.jvm_model.specs.{Classes.no_class, Classes.no_field, Library.builtin_defs, Library.builtin_classes, Library.builtin_fields, Library.builtin_methods}
use Rattle.jvm_model.specs.Linked.{count, has_room, opens}
use Rattle.et_base.specs.Names.{is_class_name, is_unqualified, is_method_name, is_field_descriptor, is_method_descriptor, after_class, after_element, after_type, argument, arguments, argument_units}

-- the numbers of the tables' entries
class_numbers : length builtin_classes ≡ builtin_count
unfolding builtin_classes builtin_defs
class_numbers = refl

-- each superclass stands before its class, and Object has none
abbrev superclass_before : ℕ → Option ℕ → Bool
superclass_before n None = nat_eq n 0
superclass_before n (Some d) = nat_lt d n

abbrev superclasses_before : ℕ → List ClassRec → Bool
superclasses_before n [] = true
superclasses_before n (c ∷ cs) = superclass_before n c.superclass && superclasses_before (n + 1) cs

pub superclasses : superclasses_before 0 builtin_classes ≡ true
unfolding builtin_classes builtin_defs
superclasses = refl

pub class_names : list_all (λ c. is_class_name c.name) builtin_classes ≡ true
unfolding builtin_classes builtin_defs is_class_name
class_names = refl

pub field_forms : list_all (λ f. is_unqualified f.name && is_field_descriptor f.descriptor) builtin_fields ≡ true
unfolding builtin_fields builtin_defs is_class_name is_field_descriptor after_class after_element after_type
field_forms = refl

pub method_forms : list_all (λ m. is_method_name m.name && is_method_descriptor m.descriptor) builtin_methods ≡ true
unfolding builtin_methods builtin_defs is_class_name is_field_descriptor after_class after_element after_type argument arguments argument_units
method_forms = refl

pub method_room : list_all (λ m. has_room m.flags (argument_units m.descriptor)) builtin_methods ≡ true
unfolding builtin_methods builtin_defs is_class_name is_field_descriptor after_class after_element after_type argument arguments argument_units
method_room = refl

pub field_openings : (p : Program) → list_all (λ f. opens p f.descriptor f.opening) builtin_fields ≡ true
unfolding builtin_fields builtin_defs
field_openings p = refl

-- each field and each method is listed once, by its class
pub fields_listed : list_all (λ f. nat_eq (count f (get_or builtin_classes (get_or builtin_fields f no_field).class no_class).fields) 1) (0 ∷ 1 ∷ []) ≡ true
unfolding builtin_classes builtin_fields builtin_defs
fields_listed = refl

abbrev listed_from : ℕ → List MethodRec → Bool
listed_from n [] = true
listed_from n (m ∷ ms) = nat_eq (count n (get_or builtin_classes m.class no_class).methods) 1 && listed_from (n + 1) ms

pub methods_listed : listed_from 0 builtin_methods ≡ true
unfolding builtin_classes builtin_methods builtin_defs
methods_listed = refl

abbrev names_differ : List ClassRec → Bool
names_differ [] = true
names_differ (c ∷ cs) = not (list_any (λ d. bytes_eq c.name d.name) cs) && names_differ cs

pub class_names_differ : names_differ builtin_classes ≡ true
unfolding builtin_classes builtin_defs
class_names_differ = refl

abbrev same_method : MethodRec → MethodRec → Bool
same_method m n = nat_eq m.class n.class && (bytes_eq m.name n.name && bytes_eq m.descriptor n.descriptor)

abbrev methods_differ : List MethodRec → Bool
methods_differ [] = true
methods_differ (m ∷ ms) = not (list_any (λ n. same_method m n) ms) && methods_differ ms

pub builtin_methods_differ : methods_differ builtin_methods ≡ true
unfolding builtin_methods builtin_defs
builtin_methods_differ = refl
