-- The rows of getstatic and putstatic.
use Rattle.std.proofs.Common.{ℕ, List, [], ◌∷◌, refl, sym, subst, append-nil}
use Rattle.jvm_model.specs.declared.instr.Instr.TheVariants as form
use Rattle.jvm_model.specs.{declared.program.Program.Program, World.World, Entries.Entries, Classes.field_at}
use Rattle.jvm_model.specs.RowsStatics.{row_statics, read_static, write_static}
use Rattle.type_frames.specs.declared.stack_effect.OperandConstraint.{OperandConstraint}
use Rattle.type_frames.specs.{Descriptors.types_of, StackEffect.sides, StackEffect.needs_of, Typing.IsTyped}
use Rattle.check_sound.proofs.{Tree.typed_read, Tree.typed_write, Operands.Operands, Operands.rest_of, Ends.using-typed, CallEffects.push}
use Rattle.check_sound.proofs.Ready.{Ends, Row, Ready, here, rest, operands, on, names_form}
use Rattle.check_sound.proofs.DeclaredValues.{text_of_field, declared_result, argument_stored, popping-declared}

module _ (p : Program) (ty : IsTyped p) {w : World} {s : Entries} where
  pub get_static : (f : ℕ) → Ready p w s (form.GetStatic f) → Row p w (row_statics p (form.GetStatic f) s)
  unfolding row_statics read_static sides
  get_static f r =
      let h = names_form p ty r in
      using-typed p ty r (field_at p f).class (ty.linked.numbers.fields f h)
      (typed_read h (λ v d. on p ty r refl r.locals (push p w (here r) (types_of (field_at p f).descriptor) (rest r) (v ∷ []) s.top.stack (declared_result p w (field_at p f).descriptor v d) (rest_of (operands r)))))

  pub put_static : (f : ℕ) → Ready p w s (form.PutStatic f) → Row p w (row_statics p (form.PutStatic f) s)
  unfolding row_statics write_static sides
  put_static f r =
      let h = names_form p ty r in
      let d = (field_at p f).descriptor in
      let t = text_of_field d (ty.linked.listed.field_names f h).1 in
      using-typed p ty r (field_at p f).class (ty.linked.numbers.fields f h)
      (popping-declared p ty (Ends p) d t (subst (λ (ns : List OperandConstraint). Operands p w (here r) ns r.types.stack (rest r) s.top.stack) (sym (append-nil (needs_of d))) (operands r)) (λ v ws us a o.
      typed_write tt h (argument_stored p w d v t a) (on p ty r refl r.locals (rest_of o))))
