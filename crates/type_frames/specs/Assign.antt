-- What may stand where a type is asked (JVMS 4.10.1.2). An interface takes every reference, arrays too; a class that the
-- program lacks counts as one below Object (this project's).
use Rattle.std.specs.Prelude.{ℕ, List, [], ◌∷◌, drop, Bool, true, false, not, ◌&&◌, ◌||◌, nat_eq, Option, Some, None}
use Rattle.std.specs.{List.position_from, Str.bytes_eq}
use Rattle.jvm_model.specs.{declared.program.Program.Program, Classes.class_at, Classes.is_interface, Classes.is_below, Builtin.object_class}
use Rattle.type_frames.specs.{declared.vtype.VType.VType, Descriptors.class_name}
use Rattle.type_frames.specs.declared.vtype.VType.TheVariants.{Top, Int, Long, Null, Object, UninitThis, Uninit}

-- the number of the class of a name
abbrev pub class_named : Program → List ℕ → Option ℕ
class_named p name = position_from (λ c. bytes_eq c.name name) 0 p.classes

-- the class is Object or an interface, which take any reference
unfoldable pub takes_any : Program → List ℕ → Bool
takes_any p b = elim (class_named p b) [ None ↦ false | Some d ↦ nat_eq d object_class || is_interface (class_at p d).flags ]

-- a class of the program is another one or below it
unfoldable pub extends : Program → List ℕ → List ℕ → Bool
extends p a b = elim (class_named p a) [ None ↦ false | Some c ↦ elim (class_named p b) [ None ↦ false | Some d ↦ is_below p c d ] ]

-- of two classes by name
unfoldable pub class_fits : Program → List ℕ → List ℕ → Bool
class_fits p a b = bytes_eq a b || (takes_any p b || extends p a b)

-- Of two element types of arrays, by descriptor: arrays of arrays go by their elements, an array is an Object and every
-- interface, two classes go as classes do, and number types are the same.
abbrev pub element_fits : Program → List ℕ → List ℕ → Bool
element_fits p [] b = false
element_fits p (u ∷ us) [] = false
element_fits p (u ∷ us) (w ∷ ws) = elim (nat_eq w 76) [
  | true ↦ elim (nat_eq u 76) [ true ↦ class_fits p (class_name us) (class_name ws) | false ↦ nat_eq u 91 && takes_any p (class_name ws) ]
  | false ↦ elim (nat_eq w 91) [ true ↦ nat_eq u 91 && element_fits p us ws | false ↦ nat_eq u w ]
]

abbrev pub is_array : List ℕ → Bool
is_array [] = false
is_array (u ∷ us) = nat_eq u 91

-- of two classes or arrays
unfoldable pub object_fits : Program → List ℕ → List ℕ → Bool
object_fits p a b = elim (is_array a) [
  | true ↦ elim (is_array b) [ true ↦ element_fits p (drop 1 a) (drop 1 b) | false ↦ takes_any p b ]
  | false ↦ not (is_array b) && class_fits p a b
]

-- a value of the first type may stand where the second is asked
abbrev pub assignable : Program → VType → VType → Bool
assignable p _ Top = true
assignable p Int Int = true
assignable p Long Long = true
assignable p Null Null = true
assignable p Null (Object b) = true
assignable p (Object a) (Object b) = object_fits p a b
assignable p UninitThis UninitThis = true
assignable p (Uninit a) (Uninit b) = nat_eq a b
assignable p _ _ = false
