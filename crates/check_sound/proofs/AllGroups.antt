-- All groups of rows, the built-in methods and the driver are typed.
use Rattle.std.proofs.Common.{◌≡◌}
use Rattle.jvm_model.specs.{declared.instr.Instr.Instr, declared.program.Program.Program, World.World, Entries.Entries, RowsStatics.row_statics}
use Rattle.jvm_model.specs.declared.instr.Instr.TheVariants as form
use Rattle.jvm_model.specs.{RowsFields.row_fields, Step.statics, Step.fields, Step.group_of}
use Rattle.type_frames.specs.Typing.{IsTyped}
use Rattle.check_sound.proofs.{Ready.Row, Ready.Ready, StaticRows.get_static, StaticRows.put_static, FieldRows.get_field, FieldRows.put_field}
use Rattle.check_sound.proofs.{NestedRow.create-typed, ArrayRows.arrays-typed, CastRows.casts-typed, CastRows.throw-typed, NativeRows.native-typed}
use Rattle.check_sound.proofs.{DriverRows.drive-typed, WholeStep.Groups}

module _ (p : Program) (ty : IsTyped p) where
  statics-typed : (w : World) (s : Entries) (i : Instr) → group_of i ≡ statics → Ready p w s i → Row p w (row_statics p i s)
  statics-typed w s (form.GetStatic f) q r = get_static p ty f r
  statics-typed w s (form.PutStatic f) q r = put_static p ty f r
  statics-typed w s _ q r = absurd (cc)

  fields-typed : (w : World) (s : Entries) (i : Instr) → group_of i ≡ fields → Ready p w s i → Row p w (row_fields p i s)
  fields-typed w s (form.GetField c f) q r = get_field p ty c f r
  fields-typed w s (form.PutField c f) q r = put_field p ty c f r
  fields-typed w s _ q r = absurd (cc)

  pub groups : Groups p
  groups = record {
    statics-row = λ w s i q r. statics-typed w s i q r;
    fields-row = λ w s i q r. fields-typed w s i q r;
    create-row = λ w s i q r. create-typed p ty i q r;
    arrays-row = λ w s i q r. arrays-typed p ty i q r;
    casts-row = λ w s i q r. casts-typed p ty i q r;
    throw-row = λ w s r. throw-typed p ty r;
    native-step = λ w x m s t e n call q. native-typed p ty x m s t e n call q;
    drive-step = λ w s h k. drive-typed p ty s h k;
  }
