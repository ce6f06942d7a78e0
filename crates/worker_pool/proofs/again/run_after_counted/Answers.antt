use Rattle.std.proofs.lemmas.Result.{err_from_is_err_and}
use Rattle.worker_pool.proofs.Tests.{run_again_fault}
use Rattle.worker_pool.proofs.again.run_after_counted.Goals as goal

pub returns-in_err-_outcomes-clause-fault : goal.returns-in_err-_outcomes-clause-fault
returns-in_err-_outcomes-clause-fault g c =
    let e = err_from_is_err_and c.from_residual.result c.from_residual.ensures.1 in
    let m = c.args.machine.now in
    rw (e.1, e.2) (run_again_fault _ m.program c.args.list.now m.list c.args.test m.memory c.in_err-_outcomes.field-0.0 c.requires.fresh.0 (c.memory-opening.ensures.stands c.requires.fresh.1) c.requires.given c.in_err-_outcomes.ensures.refused)
