use Rattle.std.proofs.Common.{◌-◌}
use Rattle.worker_pool.proofs.Ends.{never_refused}
use Rattle.worker_pool.proofs.finish.post_next.Goals as goal

pub unreachable-requires : goal.unreachable-requires
unreachable-requires g c =
    let next = c.in-Some.open in
    never_refused c.args.core.now c.requires.form c.history-events.ensures.legal c.args.worker (next.chain - 1) next.test c.in_ok-piece.piece c.in-Err.field-0.why c.in-Some.ensures.1 c.in_ok-piece.ensures.piece c.in-Err.ensures.step.0
