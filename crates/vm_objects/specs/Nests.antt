-- Arrays of arrays: their lengths, and what is left of their row.
use Rattle.std.specs.Prelude.{ℕ, zero, suc, List, [], ◌∷◌, drop, Option, Some, None}
use Rattle.jvm_model.specs.declared.{values.Value.Value, values.Kind.Kind, program.Program.Program}
use Rattle.jvm_model.specs.{Access.Access, Builtin.negative_size_exception, Entries.Entries, Entries.with_stack, Rows.Answer, Rows.faults, RowsCreate.nested}
use Rattle.vm_frames.specs.Slots.{IsInt}
use Rattle.vm_mem.specs.Refines.{Row}

-- the n topmost operands are ints
abbrev pub HasInts : ℕ → List Value → Type 0
HasInts zero vs = Unit {0}
HasInts (suc n) [] = ⊥
HasInts (suc n) (v ∷ vs) = IsInt v × HasInts n vs

-- the lengths are taken, and are known, outer first
abbrev pub nested_row : Kind → List ℕ → Row Entries
nested_row k ns p s = nested p k s s.top.stack ns

-- the lengths are taken, with these operands left: they stand in the list from a place on, unless one is negative
abbrev pub taken : Program → Kind → Entries → List Value → List ℕ → Option ℕ → Access (Answer Entries)
taken p k s vs ns None = faults negative_size_exception (with_stack s vs)
taken p k s vs ns (Some i) = nested p k s vs (drop i ns)
