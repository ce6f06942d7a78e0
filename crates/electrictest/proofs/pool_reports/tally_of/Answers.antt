use Rattle.schedule_plan.proofs.Places.{member_get}
use Rattle.electrictest.proofs.pool_reports.tally_of.Goals as goal

pub add-requires-clause-test : goal.add-requires-clause-test
add-requires-clause-test c = c.requires.numbers _ (member_get c.args.tests.now c.loop-index.index c.loop-index-test.true)

pub unreachable-requires : goal.unreachable-requires
unreachable-requires c = c.in-None.ensures (c.requires.posted _ (member_get c.args.tests.now c.loop-index.index c.loop-index-test.true))
