use Rattle.std.proofs.Common.{◌≤◌, length, arith}
use Rattle.vm_tables.proofs.Ancestors.{interfaces_all}
use Rattle.vm_tables.proofs.hierarchy.all_interfaces.Goals as goal

pub returns : goal.returns
returns c =
    let m = c.loop-class-test.false in
    let e = c.len-class-end.ensures in
    let n : length c.args.p.now.classes ≤ c.loop-class.class = omega arith in
    interfaces_all c.args.p.now c.loop-class.class n c.loop-class.table c.loop-class.invariant.many c.loop-class.invariant.listed
