-- Which method a call enters (JVMS 5.4.6 and 6.5; this project's reading of them is written here).
use Rattle.std.specs.Prelude.{ℕ, List, [], ◌∷◌, Bool, not, ◌&&◌, cond, nat_eq, filter, flat_map, is_some, find, Option, Some, None}
use Rattle.std.specs.{List.list_any, Str.bytes_eq}
use Rattle.jvm_model.specs.declared.{values.Kind.Kind, program.Program.Program}
use Rattle.jvm_model.specs.declared.values.Kind.TheVariants as kind
use Rattle.jvm_model.specs.Builtin.{abstract_method_error, class_change_error, object_class}
use Rattle.jvm_model.specs.Classes.{class_at, method_at, is_private, is_static, is_interface, upwards, own_interfaces, first_mentions, implements, member, init_name}

-- the method that a call enters, or the class of the error that it throws
pub data Selected : Type 0 where
  chosen : ℕ → Selected
  failing : ℕ → Selected

-- an instance method of the name and descriptor of the method m
abbrev pub is_like : Program → ℕ → ℕ → Bool
is_like p m n = not (is_static (method_at p n).flags) && (bytes_eq (method_at p n).name (method_at p m).name && bytes_eq (method_at p n).descriptor (method_at p m).descriptor)

-- the same, private ones left aside
abbrev pub is_open_like : Program → ℕ → ℕ → Bool
is_open_like p m n = not (is_private (method_at p n).flags) && is_like p m n

-- the first method with the property f that these classes declare, class by class
abbrev pub declared_in : Program → (ℕ → Bool) → List ℕ → Option ℕ
declared_in p f cs = find f (flat_map (λ c. (class_at p c).methods) cs)

-- the superinterfaces of a class, those of its superclasses among them
abbrev pub all_interfaces : Program → ℕ → List ℕ
all_interfaces p c = first_mentions (flat_map (λ d. own_interfaces p d) (upwards p c))

-- the methods of m's name and descriptor, neither static nor private, of the superinterfaces of a class
abbrev pub candidates : Program → ℕ → ℕ → List ℕ
candidates p m c = filter (λ n. is_open_like p m n) (flat_map (λ i. (class_at p i).methods) (all_interfaces p c))

-- the interface of the second method is a superinterface of the first's
abbrev pub redeclares : Program → ℕ → ℕ → Bool
redeclares p n x = member (method_at p x).class (own_interfaces p (method_at p n).class)

-- of these methods each that no subinterface among them redeclares
abbrev pub kept_of : Program → List ℕ → List ℕ
kept_of p ms = filter (λ x. not (list_any (λ n. redeclares p n x) ms)) ms

abbrev pub has_code : Program → ℕ → Bool
has_code p m = is_some (method_at p m).body

-- the one of the kept methods with code
abbrev pub one_with_code : List ℕ → Selected
one_with_code [] = failing abstract_method_error
one_with_code (m ∷ []) = chosen m
one_with_code (m ∷ n ∷ ns) = failing class_change_error

-- the rule of kept methods at a class or interface
unfoldable pub kept_method : Program → ℕ → ℕ → Selected
kept_method p m c = one_with_code (filter (λ n. has_code p n) (kept_of p (candidates p m c)))

abbrev pub or_kept : Program → ℕ → ℕ → Option ℕ → Selected
or_kept p m c None = kept_method p m c
or_kept p m c (Some n) = chosen n

-- invokevirtual and invokeinterface of m on an instance of class c: the first class upwards that declares such a method
-- decides; where none does, the rule of kept methods
unfoldable pub select : Program → ℕ → ℕ → Selected
select p m c = or_kept p m c (declared_in p (λ n. is_open_like p m n) (upwards p c))

-- a private method is the one that is called
unfoldable pub select_virtual : Program → ℕ → ℕ → Selected
select_virtual p m c = cond (is_private (method_at p m).flags) (chosen m) (select p m c)

-- and a class that doesn't implement the named interface throws
unfoldable pub select_interface : Program → ℕ → ℕ → ℕ → Selected
select_interface p i m c = cond (is_private (method_at p m).flags) (chosen m) (cond (implements p c i) (select p m c) (failing class_change_error))

abbrev pub named_class : Kind → ℕ
named_class (kind.Class c) = c
named_class (kind.Array d b) = object_class

abbrev pub above_or : Option ℕ → ℕ → ℕ
above_or None c = c
above_or (Some d) c = d

-- where invokespecial starts: at the direct superclass where the named class is an ancestor class of the current one,
-- else at the named class or interface
abbrev pub special_start : Program → ℕ → ℕ → ℕ
special_start p current named = cond (not (nat_eq named current) && member named (upwards p current)) (above_or (class_at p current).superclass named) named

-- from a class upwards; from an interface, Object after it
abbrev pub special_path : Program → ℕ → List ℕ
special_path p c = cond (is_interface (class_at p c).flags) (c ∷ object_class ∷ []) (upwards p c)

-- invokespecial of m in a method of the current class: `<init>` is the one that is called, another is the first one of its
-- name and descriptor, private ones too, that is declared at the start or upwards
unfoldable pub select_special : Program → ℕ → ℕ → ℕ → Selected
select_special p current named m = cond (bytes_eq (method_at p m).name init_name) (chosen m)
    (let c = special_start p current named in or_kept p m c (declared_in p (λ n. is_like p m n) (special_path p c)))
