use Rattle.std.proofs.Common.{arith}
use Rattle.worker_pool.proofs.Ends.{one_from, claimed_more, all_claimed}
use Rattle.worker_pool.proofs.finish.claim_next.Goals as goal

pub returns-in-Ok : goal.returns-in-Ok
returns-in-Ok c = one_from c.args.core.now c.loop-place.core c.step.new.self c.loop-place.invariant.0 (_, c.in-Ok.ensures.step.1)

pub loop-place-preserved : goal.loop-place-preserved
loop-place-preserved c =
    let l = c.loop-place in
    let refused = c.in-Err.ensures.step in
    claimed_more c.args.core.now l.core c.step.new.self l.place c.in-Err.field-0.why c.requires.some c.requires.none l.invariant.0 refused.0 refused.2 l.invariant.1

pub unreachable-requires : goal.unreachable-requires
unreachable-requires c =
    let l = c.loop-place in
    c.requires.more (all_claimed c.args.core.now c.history-events.ensures.legal c.requires.none (λ i h. l.invariant.1 i (omega (arith, h, c.requires.chains, c.loop-place-test.false))))
