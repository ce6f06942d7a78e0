use Rattle.std.proofs.Common.{◌+◌, sym, subst, arith}
use Rattle.run_core.specs.Run.{Run, IsComplete}
use Rattle.worker_pool.specs.Plans.{HaveTests}
use Rattle.worker_pool.proofs.Ends.{one_from, posted_one, none_more, all_none}
use Rattle.worker_pool.proofs.finish.advance.Goals as goal

pub post_next-requires-clause-tests : goal.post_next-requires-clause-tests
post_next-requires-clause-tests g c = subst (λ (r : Run). HaveTests r.program r.chains) (sym c.loop-before.invariant.0) c.requires.tests

pub loop-before-preserved : goal.loop-before-preserved
loop-before-preserved g c =
    let l = c.loop-before in
    none_more c.args.core.now l.core c.post_next.new.core l.before c.in_ok-posted.posted l.invariant.0 c.in_ok-posted.ensures.posts c.if-posted.false l.invariant.1

pub returns-then-posted-clause-adds : goal.returns-then-posted-clause-adds
returns-then-posted-clause-adds g c =
    let l = c.loop-before in
    posted_one c.args.core.now l.core c.post_next.new.core (l.before + 1) c.in_ok-posted.posted l.invariant.0 c.in_ok-posted.ensures.posts c.if-posted.true

pub claim_next-requires-clause-none : goal.claim_next-requires-clause-none
claim_next-requires-clause-none g c =
    let l = c.loop-before in
    all_none c.args.core.now l.core l.before l.invariant.0 l.invariant.1 (omega (arith, c.workers-before-end.ensures, c.loop-before-test.false))

pub claim_next-requires-clause-more : goal.claim_next-requires-clause-more
claim_next-requires-clause-more g c = λ whole. c.requires.more (subst (λ (r : Run). IsComplete r) c.loop-before.invariant.0 whole)

pub returns-clause-adds : goal.returns-clause-adds
returns-clause-adds g c = one_from c.args.core.now c.loop-before.core c.claim_next.new.core c.loop-before.invariant.0 c.claim_next.ensures
