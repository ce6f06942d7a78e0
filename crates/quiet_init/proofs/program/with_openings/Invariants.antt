use Rattle.std.proofs.Common.{get_or}
use Rattle.jvm_model.specs.{declared.program.FieldRec.FieldRec, declared.values.Value.TheVariants.Null, Classes.no_field}
use Rattle.quiet_init.proofs.Lists.{AreSet}
use Rattle.quiet_init.proofs.program.with_openings.Given as goal

abbrev pub invariant-loop-field : goal.invariant-loop-field
invariant-loop-field l = AreSet FieldRec no_field (λ f. record (get_or l.fn.fields f no_field) { opening = get_or l.openings f Null }) l.fn.fields l.field l.fields.items
