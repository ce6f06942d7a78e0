use Rattle.std.proofs.Common.{length}
use Rattle.std.proofs.lemmas.Result.{err_from_is_err_and}
use Rattle.code_decode.specs.{Decoding.code_at, Targets.is_start, Targets.targets_fit}
use Rattle.code_decode.proofs.TargetSteps.{fails_then}
use Rattle.code_decode.proofs.decoding.code_at.Goals as goal

pub returns-in_err-starts-clause-gives : goal.returns-in_err-starts-clause-gives
unfolding code_at
returns-in_err-starts-clause-gives c =
    let p = err_from_is_err_and c.from_residual-in_err-starts.result c.from_residual-in_err-starts.ensures.1 in
    rw (p.1, p.2, c.in_ok-ops.ensures) (fails_then c.in_err-starts.field-0.0 (targets_fit c.args.method (is_start c.in_ok-ops.ops (length c.args.bytes.now)) c.in_ok-ops.ops) _ (rw c.as_slice.ensures at c.in_err-starts.ensures.gives))
