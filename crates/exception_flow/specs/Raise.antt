-- The row of a raised throwable, as contracts name it.
use Rattle.jvm_model.specs.{declared.values.Value.Value, Raising.row_raise, Entries.Entries}
use Rattle.vm_mem.specs.Refines.{Row}

abbrev pub raise_row : Value → Row Entries
raise_row v p s = row_raise p v s
