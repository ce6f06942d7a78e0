-- The types of fields by the first units of their descriptors.
use Rattle.std.specs.Prelude.{◌≡◌, ℕ, List, get_or}
use Rattle.jvm_model.specs.{declared.program.Program.Program, Classes.field_at, Linked.first_or}

-- the first unit of a field's descriptor, 0 where the program lacks the field or its descriptor a unit
abbrev pub field_unit : Program → ℕ → ℕ
field_unit p f = first_or 0 (field_at p f).descriptor

-- the table of them
abbrev pub AreUnits : Program → List ℕ → Type 0
AreUnits p units = (f : ℕ) → get_or units f 0 ≡ field_unit p f
