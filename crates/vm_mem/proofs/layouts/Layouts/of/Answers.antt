use Rattle.std.proofs.Common.{◌≤◌, length, arith}
use Rattle.vm_mem.proofs.Laid.{laid_all}
use Rattle.vm_mem.proofs.layouts.Layouts.of.Goals as goal

pub invariant_of-result : goal.invariant_of-result
invariant_of-result c =
    let m = c.loop-class-test.false in
    let e = c.len-class-end.ensures in
    let n : length c.args.p.now.classes ≤ c.loop-class.class = omega arith in
    laid_all c.args.p.now c.of.result.value c.loop-class.fields c.loop-class.class c.of.ensures c.loop-class.invariant.count n c.loop-class.invariant.laid
