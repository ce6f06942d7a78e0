-- getfield and putfield (JVMS 6.5): the field is read or written; a null object throws.
use Rattle.std.specs.Prelude.{◌∷◌}
use Rattle.jvm_model.specs.declared.values.Location.TheVariants as place
use Rattle.jvm_model.specs.{declared.instr.Instr.Instr, declared.program.Program.Program, Access.Access, Access.read, Access.write, Classes.field_at}
use Rattle.jvm_model.specs.declared.instr.Instr.TheVariants as form
use Rattle.jvm_model.specs.{Entries.Entries, Entries.with_stack, Narrow.narrowed}
use Rattle.jvm_model.specs.Rows.{Answer, none_here, goes_on, popping, on_object}

unfoldable pub row_fields : Program → Instr → Entries → Access (Answer Entries)
row_fields p (form.GetField c f) s = popping s.top.stack (λ r vs. on_object (with_stack s vs) r (λ o. read (place.Field o f) (λ v. goes_on p s (v ∷ vs))))
row_fields p (form.PutField c f) s = popping s.top.stack (λ v vs. popping vs (λ r rest. on_object (with_stack s rest) r (λ o.
    write (place.Field o f) (narrowed (field_at p f).descriptor v) (goes_on p s rest))))
row_fields p _ s = none_here
