use Rattle.std.proofs.Common.{◌≤◌, length, arith}
use Rattle.vm_tables.proofs.Started.{parts_all}
use Rattle.vm_tables.proofs.init_plan.InitPlan.of.Goals as goal

pub invariant_of-result : goal.invariant_of-result
invariant_of-result c =
    let m = c.loop-class-test.false in
    let e = c.len-class-end.ensures in
    let n : length c.args.p.now.classes ≤ c.loop-class.class = omega arith in
    parts_all c.args.p.now c.of.result.value c.loop-class.class c.of.ensures n c.loop-class.table c.loop-class.invariant.many c.loop-class.invariant.listed
