-- checkcast and instanceof (JVMS 6.5): the head of a nonnull object is read.
use Rattle.std.specs.Prelude.{pos, ◌∷◌, List, cond}
use Rattle.jvm_model.specs.declared.{values.Value.Value, values.Kind.Kind, instr.Instr.Instr, program.Program.Program}
use Rattle.jvm_model.specs.declared.values.Value.TheVariants.{Int, Long, Null, Lit, Obj}
use Rattle.jvm_model.specs.declared.instr.Instr.TheVariants as form
use Rattle.jvm_model.specs.{Access.Access, Builtin.class_cast_exception, Entries.Entries, Entries.with_stack, Kinds.kind_fits}
use Rattle.jvm_model.specs.Rows.{Answer, none_here, faults, goes_on, popping, with_kind}

abbrev pub cast_to : Program → Kind → Entries → Value → List Value → Kind → Access (Answer Entries)
cast_to p k s v vs x = cond (kind_fits p x k) (goes_on p s (v ∷ vs)) (faults class_cast_exception (with_stack s vs))

abbrev pub cast : Program → Kind → Entries → Value → List Value → Access (Answer Entries)
cast p k s (Int n) vs = none_here
cast p k s (Long n) vs = none_here
cast p k s Null vs = goes_on p s (Null ∷ vs)
cast p k s (Lit n) vs = with_kind (Lit n) (λ x. cast_to p k s (Lit n) vs x)
cast p k s (Obj o) vs = with_kind (Obj o) (λ x. cast_to p k s (Obj o) vs x)

abbrev pub tested_for : Program → Kind → Entries → List Value → Kind → Access (Answer Entries)
tested_for p k s vs x = goes_on p s (Int (cond (kind_fits p x k) (pos 1) (pos 0)) ∷ vs)

abbrev pub tested : Program → Kind → Entries → Value → List Value → Access (Answer Entries)
tested p k s (Int n) vs = none_here
tested p k s (Long n) vs = none_here
tested p k s Null vs = goes_on p s (Int (pos 0) ∷ vs)
tested p k s (Lit n) vs = with_kind (Lit n) (λ x. tested_for p k s vs x)
tested p k s (Obj o) vs = with_kind (Obj o) (λ x. tested_for p k s vs x)

unfoldable pub row_casts : Program → Instr → Entries → Access (Answer Entries)
row_casts p (form.CheckCast k) s = popping s.top.stack (λ v vs. cast p k s v vs)
row_casts p (form.InstanceOf k) s = popping s.top.stack (λ v vs. tested p k s v vs)
row_casts p _ s = none_here
