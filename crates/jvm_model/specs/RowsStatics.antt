-- getstatic and putstatic (JVMS 6.5): the declaring class is used, then the static is read or written.
use Rattle.std.specs.Prelude.{ℕ, ◌∷◌}
use Rattle.jvm_model.specs.declared.values.Location.TheVariants as place
use Rattle.jvm_model.specs.{declared.instr.Instr.Instr, declared.program.Program.Program, Access.Access, Access.read, Access.write, Classes.field_at}
use Rattle.jvm_model.specs.declared.instr.Instr.TheVariants as form
use Rattle.jvm_model.specs.{Entries.Entries, Narrow.narrowed}
use Rattle.jvm_model.specs.Rows.{Answer, none_here, goes_on, popping, using}

-- what comes once the class may be used
unfoldable pub read_static : Program → ℕ → Entries → Access (Answer Entries)
read_static p f s = read (place.Static f) (λ v. goes_on p s (v ∷ s.top.stack))

unfoldable pub write_static : Program → ℕ → Entries → Access (Answer Entries)
write_static p f s = popping s.top.stack (λ v vs. write (place.Static f) (narrowed (field_at p f).descriptor v) (goes_on p s vs))

unfoldable pub row_statics : Program → Instr → Entries → Access (Answer Entries)
row_statics p (form.GetStatic f) s = using p (field_at p f).class s (read_static p f s)
row_statics p (form.PutStatic f) s = using p (field_at p f).class s (write_static p f s)
row_statics p _ s = none_here
