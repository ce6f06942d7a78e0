use Rattle.std.proofs.Common.{Some, ap, sym, ◌∙◌, ◌<◌, length, refl, arith}
use Rattle.type_checker.proofs.Onward.{at_start, faulty, onward}
use Rattle.type_checker.proofs.walk.code_fault.Goals as goal

pub loop-k-init : goal.loop-k-init
loop-k-init c = (ap Some c.in_ok-opening.ensures ∙ at_start c.args.program.now c.args.context.now, refl)

pub returns-in-Faulty : goal.returns-in-Faulty
returns-in-Faulty c =
    let h = rw c.in-Faulty.is at c.in_ok-fault.ensures in
    let lt : c.loop-k.k < length c.args.context.now.body.code = omega arith in
    sym (c.loop-k.invariant.1 ∙ faulty _ _ _ _ c.loop-k.k c.loop-k.running c.in-Faulty.fault c.loop-k.invariant.0 lt h)

pub loop-k-preserved : goal.loop-k-preserved
loop-k-preserved c =
    let h = rw c.in-Onward.is at c.in_ok-fault.ensures in
    let lt : c.loop-k.k < length c.args.context.now.body.code = omega arith in
    let q = onward _ _ _ _ c.loop-k.k c.loop-k.running c.in-Onward.next c.loop-k.invariant.0 lt h in
    (q.0, c.loop-k.invariant.1 ∙ q.1)
