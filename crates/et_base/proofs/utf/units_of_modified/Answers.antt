use Rattle.std.proofs.Common.{sym, arith}
use Rattle.std.proofs.lemmas.Result.{err_from_is_err_and}
use Rattle.et_base.proofs.UtfLaws.{so_far_more, so_far_bad, unit_at-shorter}
use Rattle.et_base.proofs.utf.units_of_modified.Goals as goal

pub returns-in_default-clause-fault : goal.returns-in_default-clause-fault
returns-in_default-clause-fault c = so_far_bad c.args.bytes.now c.loop-rest.units c.loop-rest.rest.now c.loop-rest.invariant (grind arith) (sym c.in_default.ensures)

pub returns-in_err-push-clause-fault : goal.returns-in_err-push-clause-fault
returns-in_err-push-clause-fault c = let p = err_from_is_err_and c.from_residual.result c.from_residual.ensures.1 in rw (p.1, p.2) tt

pub loop-rest-smaller : goal.loop-rest-smaller
loop-rest-smaller c = unit_at-shorter c.loop-rest.rest.now c.in-Some.next.now c.in-Some.unit (sym c.in-Some.ensures)

pub loop-rest-preserved : goal.loop-rest-preserved
loop-rest-preserved c = rw c.in_ok-push.ensures.pushed (so_far_more c.args.bytes.now c.loop-rest.units c.loop-rest.rest.now c.in-Some.next.now c.in-Some.unit c.loop-rest.invariant (sym c.in-Some.ensures))
