-- The rows of the groups of forms and of parts of them, as contracts name them. The row of getfield and putfield doesn't
-- look at the class that the instruction names, nor that of an array load at the sort of cells.
use Rattle.std.specs.Prelude.{ℕ, ℤ, pos, negsuc, cond, nat_lt, Option, Some, None}
use Rattle.jvm_model.specs.declared.{values.Value.Value, instr.Cell.Cell, instr.Instr.Instr}
use Rattle.jvm_model.specs.declared.values.Location.TheVariants as place
use Rattle.jvm_model.specs.{Access.read, Entries.Entries, RowsFields.row_fields, RowsArrays.row_arrays, RowsArrays.stored_in, RowsCasts.row_casts}
use Rattle.jvm_model.specs.{RowsStatics.row_statics, RowsStatics.read_static, RowsStatics.write_static, RowsCreate.row_create, RowsCreate.new_object}
use Rattle.vm_mem.specs.Refines.{Row}

abbrev pub static_row : Instr → Row Entries
static_row i p s = row_statics p i s

-- the class of the static may be used
abbrev pub read_row : ℕ → Row Entries
read_row f p s = read_static p f s

abbrev pub write_row : ℕ → Row Entries
write_row f p s = write_static p f s

abbrev pub field_row : Instr → Row Entries
field_row i p s = row_fields p i s

abbrev pub array_row : Instr → Row Entries
array_row i p s = row_arrays p i s

abbrev pub cast_row : Instr → Row Entries
cast_row i p s = row_casts p i s

abbrev pub create_row : Instr → Row Entries
create_row i p s = row_create p i s

-- the class may be used
abbrev pub object_row : ℕ → Row Entries
object_row c p s = new_object p c s

-- the place that an index says, if it is in range
abbrev pub place_in : ℤ → ℕ → Option ℕ
place_in (pos i) n = cond (nat_lt i n) (Some i) None
place_in (negsuc i) n = None

-- a value goes into an array at an index: what an array store does once its operands are taken
abbrev pub store_row : Cell → ℕ → ℤ → Value → Row Entries
store_row c o i v p s = read (place.Head o) (λ h. stored_in p c s o i v s.top.stack h)

-- a length, if it isn't negative
abbrev pub count_of : ℤ → Option ℕ
count_of (pos n) = Some n
count_of (negsuc n) = None
