-- What rows of the tables stand for.
use Rattle.std.specs.Prelude.{ℕ, ◌+◌, List, [], ◌∷◌, length, map, Option, Some, None, option_map, ◌&&◌, if◌then◌else◌}
use Rattle.jvm_model.specs.declared.library.{ClassDef.ClassDef, FieldDef.FieldDef, MethodDef.MethodDef, Native.Native}
use Rattle.std.specs.Str.{bytes_eq}
use Rattle.builtin_lib.specs.declared.rows.{FieldRow.FieldRow, MethodRow.MethodRow, ClassRow.ClassRow}

abbrev pub field_of : FieldRow → FieldDef
field_of r = record { name = r.name.now; descriptor = r.descriptor.now; flags = r.flags; opening = r.opening }

abbrev pub method_of : MethodRow → MethodDef
method_of r = record { name = r.name.now; descriptor = r.descriptor.now; flags = r.flags; native = r.native }

abbrev pub class_of : ClassRow → ClassDef
class_of r = record { name = r.name.now; flags = r.flags; superclass = option_map (λ n. n.now) r.superclass; interfaces = []; fields = map field_of r.fields.now; methods = map method_of r.methods.now }

-- the native of the first method with this name and descriptor
abbrev pub native_in : List MethodDef → List ℕ → List ℕ → Option Native
native_in [] name descriptor = None
native_in (m ∷ ms) name descriptor = if bytes_eq name m.name && bytes_eq descriptor m.descriptor then Some m.native else native_in ms name descriptor

-- the native of a method of the first class with this name
abbrev pub native_among : List ClassDef → List ℕ → List ℕ → List ℕ → Option Native
native_among [] class name descriptor = None
native_among (c ∷ cs) class name descriptor = if bytes_eq class c.name then native_in c.methods name descriptor else native_among cs class name descriptor

-- the same of rows
abbrev pub native_row : List MethodRow → List ℕ → List ℕ → Option Native
native_row rows name descriptor = native_in (map method_of rows) name descriptor

abbrev pub class_row : List ClassRow → List ℕ → List ℕ → List ℕ → Option Native
class_row rows class name descriptor = native_among (map class_of rows) class name descriptor

-- how many fields and methods classes have together
abbrev pub field_count : List ClassDef → ℕ
field_count [] = 0
field_count (d ∷ ds) = length d.fields + field_count ds

abbrev pub method_count : List ClassDef → ℕ
method_count [] = 0
method_count (d ∷ ds) = length d.methods + method_count ds
