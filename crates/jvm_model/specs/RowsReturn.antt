-- Returns (JVMS 6.5): the entry is popped, and a value, narrowed to the method's return type, goes to the frame below.
use Rattle.std.specs.Prelude.{List, [], ◌∷◌, Some, None}
use Rattle.jvm_model.specs.declared.{values.Value.Value, instr.Instr.Instr, outcome.Next.TheVariants.Go, outcome.Next.TheVariants.Leave}
use Rattle.jvm_model.specs.declared.instr.Instr.TheVariants as form
use Rattle.jvm_model.specs.declared.state.{EntryKind.EntryKind, EntryKind.TheVariants.Absent, EntryKind.TheVariants.InMethod, EntryKind.TheVariants.InClass}
use Rattle.jvm_model.specs.declared.program.Program.{Program}
use Rattle.jvm_model.specs.{Access.Access, Access.done, Classes.method_at, Descriptors.return_type, Narrow.narrowed, Entries.Entries, Entries.popped_entry}
use Rattle.jvm_model.specs.Rows.{Answer, answer, none_here, goes_on, popping}

abbrev pub handed_on : EntryKind → Program → List Value → Entries → Access (Answer Entries)
handed_on Absent p vs s = done (answer Leave s)
handed_on InMethod p [] s = goes_on p s s.top.stack
handed_on InMethod p (v ∷ vs) s = goes_on p s (v ∷ s.top.stack)
handed_on (InClass b) p vs s = done (answer Go s)

-- These values, none or one, go to the entry below. A frame goes on after its call; an initialisation entry takes no
-- value; where no entry is left, the driver goes on.
unfoldable pub hands_on : Program → List Value → Entries → Access (Answer Entries)
hands_on p vs s = handed_on (popped_entry s).top.kind p vs (popped_entry s)

unfoldable pub row_return : Program → Instr → Entries → Access (Answer Entries)
row_return p (form.Return None) s = hands_on p [] s
row_return p (form.Return (Some x)) s = popping s.top.stack (λ v vs. hands_on p (narrowed (return_type (method_at p s.top.number).descriptor) v ∷ []) s)
row_return p _ s = none_here
