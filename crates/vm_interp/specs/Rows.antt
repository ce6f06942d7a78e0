-- The rows of instructions, as contracts name them.
use Rattle.jvm_model.specs.declared.instr.Instr.{Instr}
use Rattle.jvm_model.specs.declared.instr.Instr.TheVariants as form
use Rattle.jvm_model.specs.Entries.{Entries}
use Rattle.jvm_model.specs.Step as steps
use Rattle.vm_mem.specs.Refines.{Row}

abbrev pub form_row : Instr → Row Entries
form_row i p s = steps.row p i s

-- a method is called on an object, by its class
abbrev pub IsOnObject : Instr → Type 0
IsOnObject (form.InvokeVirtual k m) = Unit {0}
IsOnObject (form.InvokeInterface c m) = Unit {0}
IsOnObject i = ⊥

-- athrow
abbrev pub throw_row : Row Entries
throw_row p s = steps.row_throw s
