use Rattle.std.proofs.Common.{◌≤◌, length, arith}
use Rattle.vm_tables.proofs.FieldUnits.{units_all}
use Rattle.vm_tables.proofs.tables.all_units.Goals as goal

pub returns : goal.returns
returns c =
    let m = c.loop-field-test.false in
    let e = c.as_slice-field-items.ensures in
    let n : length c.args.p.now.fields ≤ c.loop-field.field-index = rw (← e) (omega arith) in
    units_all c.args.p.now c.loop-field.field-index n c.loop-field.units c.loop-field.invariant.many c.loop-field.invariant.read
