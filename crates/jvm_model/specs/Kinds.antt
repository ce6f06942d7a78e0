-- What objects are instances of (JVMS 6.5, instanceof and aastore). At run time an array implements no interface.
use Rattle.std.specs.Prelude.{ℕ, ◌-◌, Bool, true, false, cond, ◌&&◌, ◌||◌, nat_eq, nat_lt}
use Rattle.jvm_model.specs.declared.{values.Base.Base, values.Kind.Kind, program.Program.Program}
use Rattle.jvm_model.specs.declared.values.Base.TheVariants as base
use Rattle.jvm_model.specs.declared.values.Kind.TheVariants as kind
use Rattle.jvm_model.specs.{Builtin.object_class, Classes.is_below, Classes.implements}

-- the class of an object; an array is of class Object
abbrev pub class_of : Kind → ℕ
class_of (kind.Class c) = c
class_of (kind.Array dims b) = object_class

-- the type of an array's elements that are references; an array of numbers has none, and stands for itself here
abbrev pub element_kind : Kind → Kind
element_kind (kind.Class c) = kind.Class c
element_kind (kind.Array dims (base.Class c)) = cond (nat_eq dims 1) (kind.Class c) (kind.Array (dims - 1) (base.Class c))
element_kind (kind.Array dims base.Boolean) = kind.Array (dims - 1) base.Boolean
element_kind (kind.Array dims base.Byte) = kind.Array (dims - 1) base.Byte
element_kind (kind.Array dims base.Char) = kind.Array (dims - 1) base.Char
element_kind (kind.Array dims base.Short) = kind.Array (dims - 1) base.Short
element_kind (kind.Array dims base.Int) = kind.Array (dims - 1) base.Int
element_kind (kind.Array dims base.Long) = kind.Array (dims - 1) base.Long

-- an instance of class or interface c is one of d: it is d or below it, or implements it (JVMS 6.5, checkcast)
unfoldable pub class_fits : Program → ℕ → ℕ → Bool
class_fits p c d = is_below p c d || implements p c d

-- innermost element types of arrays of as many dimensions
abbrev pub base_fits : Program → Base → Base → Bool
base_fits p (base.Class c) (base.Class d) = class_fits p c d
base_fits p base.Boolean base.Boolean = true
base_fits p base.Byte base.Byte = true
base_fits p base.Char base.Char = true
base_fits p base.Short base.Short = true
base_fits p base.Int base.Int = true
base_fits p base.Long base.Long = true
base_fits p _ _ = false

abbrev pub is_object : Base → Bool
is_object (base.Class c) = nat_eq c object_class
is_object _ = false

-- an object of the first kind is an instance of the second
unfoldable pub kind_fits : Program → Kind → Kind → Bool
kind_fits p (kind.Class c) (kind.Class d) = class_fits p c d
kind_fits p (kind.Class c) (kind.Array n b) = false
kind_fits p (kind.Array n b) (kind.Class d) = nat_eq d object_class
kind_fits p (kind.Array n b) (kind.Array m e) = cond (nat_eq n m) (base_fits p b e) (nat_lt m n && is_object e)
