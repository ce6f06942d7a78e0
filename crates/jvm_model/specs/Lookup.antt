-- The look-up of fields and methods (JVMS 5.4.3.2 to 5.4.3.4, without access).
use Rattle.std.specs.Prelude.{ℕ, zero, suc, List, [], ◌∷◌, ◌++◌, Bool, false, not, ◌&&◌, cond, filter, flat_map, find, Option, Some, None}
use Rattle.jvm_model.specs.{declared.values.Kind.Kind, declared.program.Program.Program, Builtin.object_class, Selection.kept_of, Selection.has_code}
use Rattle.jvm_model.specs.declared.values.Kind.TheVariants as kind
use Rattle.std.specs.Str.{bytes_eq}
use Rattle.jvm_model.specs.Classes.{class_at, field_at, method_at, is_private, is_static, is_interface, class_bound, upwards, first_mentions, init_name}

-- the field n has this name and descriptor
abbrev pub is_field : Program → List ℕ → List ℕ → ℕ → Bool
is_field p name descriptor n = bytes_eq (field_at p n).name name && bytes_eq (field_at p n).descriptor descriptor

abbrev pub is_method : Program → List ℕ → List ℕ → ℕ → Bool
is_method p name descriptor n = bytes_eq (method_at p n).name name && bytes_eq (method_at p n).descriptor descriptor

-- the classes in which a field is looked for: a class, then its superinterfaces, each before its own, then its superclass
-- and so on, at most k steps up
abbrev pub field_path_in : Program → ℕ → ℕ → List ℕ
field_path_in p zero c = []
field_path_in p (suc k) c = (c ∷ flat_map (λ i. field_path_in p k i) (class_at p c).interfaces) ++ (elim (class_at p c).superclass [ None ↦ [] | Some d ↦ field_path_in p k d ])

unfoldable pub field_path : Program → ℕ → List ℕ
field_path p c = field_path_in p class_bound c

-- the field of a name and descriptor that a class has
unfoldable pub find_field : Program → ℕ → List ℕ → List ℕ → Option ℕ
find_field p c name descriptor = find (λ n. is_field p name descriptor n) (flat_map (λ d. (class_at p d).fields) (field_path p c))

-- an interface before its own superinterfaces, at most k steps up
abbrev pub pedigree_in : Program → ℕ → ℕ → List ℕ
pedigree_in p zero i = []
pedigree_in p (suc k) i = i ∷ flat_map (λ j. pedigree_in p k j) (class_at p i).interfaces

-- the superinterfaces of a class or interface, from the class upwards, each before its own
unfoldable pub superinterfaces : Program → ℕ → List ℕ
superinterfaces p c = flat_map (λ d. flat_map (λ i. pedigree_in p class_bound i) (class_at p d).interfaces) (upwards p c)

-- the methods of a name and descriptor of the superinterfaces, neither static nor private
abbrev pub interface_methods : Program → ℕ → List ℕ → List ℕ → List ℕ
interface_methods p c name descriptor = filter (λ n. is_method p name descriptor n && (not (is_private (method_at p n).flags) && not (is_static (method_at p n).flags)))
    (flat_map (λ i. (class_at p i).methods) (superinterfaces p c))

-- the one of the maximally specific ones that has code, else the first of all
abbrev pub one_or_first : List ℕ → List ℕ → Option ℕ
one_or_first (m ∷ []) ms = Some m
one_or_first _ [] = None
one_or_first _ (m ∷ ms) = Some m

unfoldable pub find_in_interfaces : Program → ℕ → List ℕ → List ℕ → Option ℕ
find_in_interfaces p c name descriptor = let ms = interface_methods p c name descriptor in one_or_first (first_mentions (filter (λ n. has_code p n) (kept_of p ms))) ms

abbrev pub or_else : Option ℕ → Option ℕ → Option ℕ
or_else None b = b
or_else (Some n) b = Some n

-- the first method of a name and descriptor that one of these classes declares
abbrev pub find_declared : Program → List ℕ → List ℕ → List ℕ → Option ℕ
find_declared p name descriptor cs = find (λ n. is_method p name descriptor n) (flat_map (λ d. (class_at p d).methods) cs)

-- the instance methods of Object among the methods of a name and descriptor
abbrev pub find_in_object : Program → List ℕ → List ℕ → Option ℕ
find_in_object p name descriptor = find (λ n. is_method p name descriptor n && not (is_static (method_at p n).flags)) (class_at p object_class).methods

-- The method of a name and descriptor that a class or interface has: one of a class is declared by it or a superclass, one
-- of an interface by it or Object, else either comes from a superinterface. `<init>` is declared by the class itself.
unfoldable pub find_method : Program → ℕ → List ℕ → List ℕ → Option ℕ
find_method p c name descriptor = cond (bytes_eq name init_name)
    (find_declared p name descriptor (c ∷ []))
    (cond (is_interface (class_at p c).flags)
    (or_else (find_declared p name descriptor (c ∷ [])) (or_else (find_in_object p name descriptor) (find_in_interfaces p c name descriptor)))
    (or_else (find_declared p name descriptor (upwards p c)) (find_in_interfaces p c name descriptor)))

-- an array type has the methods of Object, but it declares no `<init>`
abbrev pub lacks_method : Kind → List ℕ → Bool
lacks_method (kind.Class c) name = false
lacks_method (kind.Array d b) name = bytes_eq name init_name
