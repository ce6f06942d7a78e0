use Rattle.std.proofs.Common.{◌≤◌, length, arith}
use Rattle.vm_tables.proofs.Started.{facts_all}
use Rattle.vm_tables.proofs.methods.MethodTable.of.Goals as goal

pub invariant_of-result : goal.invariant_of-result
invariant_of-result c =
    let m = c.loop-method-test.false in
    let e = c.as_slice-method-items.ensures in
    let n : length c.args.p.now.methods ≤ c.loop-method.method-index = rw (← e) (omega arith) in
    facts_all c.args.p.now c.of.result.value c.loop-method.method-index c.of.ensures n c.loop-method.table c.loop-method.invariant.many c.loop-method.invariant.made
