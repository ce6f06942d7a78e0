-- What a program says of its classes, fields and methods.
use Rattle.std.specs.Prelude.{ℕ, zero, suc, List, [], ◌∷◌, ◌++◌, get_or, replicate, map, filter, Bool, true, false, not, ◌&&◌, cond, nat_eq, ◌/◌, ◌%◌, pos, Option, Some, None, flat_map, is_some}
use Rattle.std.specs.{List.list_any, List.list_all, Str.bytes_eq}
use Rattle.jvm_model.specs.declared.values.{Value.Value, Value.TheVariants.Int, Value.TheVariants.Long, Value.TheVariants.Null, Kind.Kind, Base.Base, Head.Head}
use Rattle.jvm_model.specs.declared.values.Kind.TheVariants as kind
use Rattle.jvm_model.specs.declared.values.Base.TheVariants as base
use Rattle.jvm_model.specs.declared.{instr.Instr.Instr, program.Program.Program, program.ClassRec.ClassRec, program.FieldRec.FieldRec}
use Rattle.jvm_model.specs.{declared.program.MethodRec.MethodRec, declared.program.Body.Body, declared.program.Placed.Placed, World.Object}

-- what stands at a number that a program lacks
abbrev pub no_class : ClassRec
no_class = record { name = []; version = 0; flags = 0; superclass = None; interfaces = []; fields = []; methods = []; initialiser = None; mentions = [] }

abbrev pub no_field : FieldRec
no_field = record { class = 0; name = []; descriptor = []; flags = 0; opening = Null }

abbrev pub no_method : MethodRec
no_method = record { class = 0; name = []; descriptor = []; flags = 0; native = None; body = None }

-- a program of nothing
abbrev pub no_program : Program
no_program = record { classes = []; fields = []; methods = []; literals = []; tests = []; files = [] }

abbrev pub class_at : Program → ℕ → ClassRec
class_at p c = get_or p.classes c no_class

abbrev pub field_at : Program → ℕ → FieldRec
field_at p f = get_or p.fields f no_field

abbrev pub method_at : Program → ℕ → MethodRec
method_at p m = get_or p.methods m no_method

-- the string constant n, numbered from 1; 0 is the stream, which has no text
abbrev pub literal_at : Program → ℕ → List ℕ
literal_at p n = get_or ([] ∷ p.literals) n []

-- whether an access flag (a power of two) is set (JVMS tables 4.1-B, 4.5-A and 4.6-A)
abbrev pub has_flag : ℕ → ℕ → Bool
has_flag flag flags = nat_eq ((flags / flag) % 2) 1

abbrev pub is_private : ℕ → Bool
is_private flags = has_flag 0x0002 flags

abbrev pub is_static : ℕ → Bool
is_static flags = has_flag 0x0008 flags

abbrev pub is_interface : ℕ → Bool
is_interface flags = has_flag 0x0200 flags

abbrev pub is_abstract : ℕ → Bool
is_abstract flags = has_flag 0x0400 flags

-- A bound on the length of each chain of superclasses and superinterfaces: a program has at most 1,024 classes beside
-- the built-in ones. It is the same for every program.
unfoldable pub class_bound : ℕ
class_bound = 1200

-- a class and its superclasses, from it upwards (JVMS 5.3.5), at most k of them
abbrev pub upwards_in : Program → ℕ → ℕ → List ℕ
upwards_in p zero c = []
upwards_in p (suc k) c = c ∷ (elim (class_at p c).superclass [ None ↦ [] | Some d ↦ upwards_in p k d ])

abbrev pub upwards : Program → ℕ → List ℕ
upwards p c = upwards_in p class_bound c

abbrev pub member : ℕ → List ℕ → Bool
member n xs = list_any (nat_eq n) xs

-- the list without later mentions
abbrev pub first_mentions : List ℕ → List ℕ
first_mentions [] = []
first_mentions (x ∷ xs) = x ∷ filter (λ y. not (nat_eq x y)) (first_mentions xs)

-- an interface after its own superinterfaces, in the order of its entries, at most k steps up
abbrev pub lineage_in : Program → ℕ → ℕ → List ℕ
lineage_in p zero i = []
lineage_in p (suc k) i = flat_map (λ j. lineage_in p k j) (class_at p i).interfaces ++ (i ∷ [])

-- the interfaces that a class or interface reaches by its own entries: each directly implemented one in order, its own
-- superinterfaces before it, each at its first mention (this project's order)
unfoldable pub own_interfaces : Program → ℕ → List ℕ
own_interfaces p c = first_mentions (flat_map (λ j. lineage_in p class_bound j) (class_at p c).interfaces)

-- the class is d or below it (JVMS 4.10.1.2)
unfoldable pub is_below : Program → ℕ → ℕ → Bool
is_below p c d = member d (upwards p c)

-- the class or one above it implements the interface by its own entries, or those above them: an interface doesn't
-- implement itself (JVMS 6.5, instanceof)
unfoldable pub implements : Program → ℕ → ℕ → Bool
implements p c i = member i (flat_map (λ d. own_interfaces p d) (upwards p c))

-- the units of `<clinit>` and `<init>`
abbrev pub clinit_name : List ℕ
clinit_name = 60 ∷ 99 ∷ 108 ∷ 105 ∷ 110 ∷ 105 ∷ 116 ∷ 62 ∷ []

abbrev pub init_name : List ℕ
init_name = 60 ∷ 105 ∷ 110 ∷ 105 ∷ 116 ∷ 62 ∷ []

-- a method with code that isn't static and isn't named `<clinit>`
abbrev pub is_default_method : MethodRec → Bool
is_default_method m = is_some m.body && (not (is_static m.flags) && not (bytes_eq m.name clinit_name))

-- the default interfaces that a class starts itself: those of its own interfaces that declare such a method (JVMS 5.5)
unfoldable pub default_interfaces : Program → ℕ → List ℕ
default_interfaces p c = filter (λ i. list_any (λ m. is_default_method (method_at p m)) (class_at p i).methods) (own_interfaces p c)

-- whether a class or interface declares `<clinit>`
abbrev pub declares_start : Program → ℕ → Bool
declares_start p c = is_some (class_at p c).initialiser

-- A trivial class has no initialisation state: neither it, nor a superclass, nor a default interface of one of them
-- declares `<clinit>`. A trivial interface declares none.
unfoldable pub is_trivial : Program → ℕ → Bool
is_trivial p c = cond (is_interface (class_at p c).flags)
    (not (declares_start p c))
    (list_all (λ d. not (declares_start p d) && list_all (λ i. not (declares_start p i)) (default_interfaces p d)) (upwards p c))

-- the default value of a type, by its descriptor (JVMS 2.3 and 2.4); B C I S Z are whole numbers, J is a long
abbrev pub default_of : List ℕ → Value
default_of [] = Null
default_of (u ∷ us) = cond (member u (66 ∷ 67 ∷ 73 ∷ 83 ∷ 90 ∷ [])) (Int (pos 0)) (cond (nat_eq u 74) (Long (pos 0)) Null)

-- the instance fields that a class declares
abbrev pub plain_fields : Program → ℕ → List ℕ
plain_fields p c = filter (λ f. not (is_static (field_at p f).flags)) (class_at p c).fields

-- the instance fields of a class, superclass fields first
abbrev pub layout_in : Program → List ℕ → List ℕ
layout_in p [] = []
layout_in p (c ∷ cs) = layout_in p cs ++ plain_fields p c

unfoldable pub layout : Program → ℕ → List ℕ
layout p c = layout_in p (upwards p c)

-- the default value of an array's elements
abbrev pub element_default : ℕ → Base → Value
element_default dims b = cond (nat_eq dims 1) (elim b [
  | base.Boolean ↦ Int (pos 0)
  | base.Byte ↦ Int (pos 0)
  | base.Char ↦ Int (pos 0)
  | base.Short ↦ Int (pos 0)
  | base.Int ↦ Int (pos 0)
  | base.Long ↦ Long (pos 0)
  | base.Class c ↦ Null
]) Null

abbrev pub fields_of : Program → Kind → List (ℕ × Value)
fields_of p (kind.Class c) = map (λ f. (f, default_of (field_at p f).descriptor)) (layout p c)
fields_of p (kind.Array dims b) = []

abbrev pub elems_of : Kind → ℕ → List Value
elems_of (kind.Class c) n = []
elems_of (kind.Array dims b) n = replicate n (element_default dims b)

-- a new object of a head, with default cells and no text
unfoldable pub blank : Program → Head → Object
blank p h = record { head = h; fields = fields_of p h.kind; elems = elems_of h.kind h.length; text = None }

-- the head of a new instance of a class
abbrev pub instance_head : ℕ → Head
instance_head c = record { kind = kind.Class c; length = 0 }

-- an instruction, and the place of the one after it
pub record Found : Type 0 where
  pub form : Instr
  pub after : ℕ

abbrev pub place_after : List Placed → ℕ → ℕ
place_after [] end = end
place_after (x ∷ xs) end = x.pc

-- the instruction at a place of the code, whose length is end
abbrev pub found_in : List Placed → ℕ → ℕ → Option Found
found_in [] end pc = None
found_in (x ∷ xs) end pc = elim (nat_eq x.pc pc) [ true ↦ Some (record { form = x.form; after = place_after xs end }) | false ↦ found_in xs end pc ]

abbrev pub found_of : Option Body → ℕ → Option Found
found_of None pc = None
found_of (Some b) pc = found_in b.code b.length pc

-- the instruction at a place of a method
unfoldable pub form_at : Program → ℕ → ℕ → Option Instr
form_at p m pc = elim (found_of (method_at p m).body pc) [ None ↦ None | Some x ↦ Some x.form ]

-- the place of the instruction after it
unfoldable pub next_place : Program → ℕ → ℕ → ℕ
next_place p m pc = elim (found_of (method_at p m).body pc) [ None ↦ pc | Some x ↦ x.after ]
