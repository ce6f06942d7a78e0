use Rattle.std.proofs.Common.{◌≤◌, ◌∙◌, ap, List, get_or, length, arith}
use Rattle.jvm_model.specs.{declared.program.FieldRec.FieldRec, declared.values.Value.TheVariants.Null, Classes.no_field}
use Rattle.quiet_init.proofs.Lists.{all_set}
use Rattle.quiet_init.proofs.program.with_openings.Goals as goal

pub returns : goal.returns
returns c =
    let t = c.loop-field-test.false in
    let e = c.len-field-end.ensures in
    let f = ap (λ (xs : List FieldRec). length xs) c.into_vec-fields.ensures in
    let n : length c.args.fields ≤ c.loop-field.field = omega arith in
    c.from_vec.ensures ∙ all_set no_field (λ f. record (get_or c.args.fields f no_field) { opening = get_or c.args.openings.now f Null }) c.args.fields c.loop-field.field c.loop-field.fields.items n c.loop-field.invariant
