use Rattle.std.proofs.lemmas.Result.{err_from_is_err_and}
use Rattle.code_decode.specs.Targets.{is_marked}
use Rattle.code_decode.proofs.TargetSteps.{fit_on, fit_fails}
use Rattle.code_decode.proofs.starts.judge_targets.Goals as goal

pub returns-in_err-judge_op : goal.returns-in_err-judge_op
returns-in_err-judge_op c =
    let p = err_from_is_err_and c.from_residual.result c.from_residual.ensures.1 in
    rw (p.1, p.2) (fit_fails c.in_err-judge_op.field-0.0 c.args.method (is_marked c.args.starts.now) c.args.ops.now c.loop-op.op-index c.op-item.result _ c.loop-op-test.true c.op-item.is c.in_err-judge_op.ensures c.loop-op.invariant)

pub loop-op-preserved : goal.loop-op-preserved
loop-op-preserved c = fit_on c.args.method (is_marked c.args.starts.now) c.args.ops.now c.loop-op.op-index c.op-item.result _ c.loop-op-test.true c.op-item.is c.in_ok-judge_op.ensures c.loop-op.invariant
