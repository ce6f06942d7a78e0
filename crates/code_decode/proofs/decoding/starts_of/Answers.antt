use Rattle.std.proofs.lemmas.Result.{err_from_is_err_and}
use Rattle.code_decode.proofs.Marking.{marked_fit}
use Rattle.code_decode.proofs.decoding.starts_of.Goals as goal

pub returns-in_err-judge_targets-clause-gives : goal.returns-in_err-judge_targets-clause-gives
returns-in_err-judge_targets-clause-gives c =
    let p = err_from_is_err_and c.from_residual-in_err-judge_targets.result c.from_residual-in_err-judge_targets.ensures.1 in
    rw (p.1, p.2) (rw (marked_fit c.args.method _ c.args.ops.now c.args.total c.in_ok-starts.ensures.starts) at c.in_err-judge_targets.ensures)
