use Rattle.std.proofs.Common.{arith}
use Rattle.electrictest.proofs.TallyLaws.{few_in_order, in_order_more}
use Rattle.electrictest.proofs.reports.tally_in_order.Goals as goal

pub add-requires-clause-few : goal.add-requires-clause-few
add-requires-clause-few c = few_in_order c.args.names.now c.args.outcomes.now c.loop-index.index c.loop-index.tally (omega arith) c.requires.few c.loop-index.invariant

pub loop-index-preserved : goal.loop-index-preserved
loop-index-preserved c =
    rw c.in_ok-add.ensures (in_order_more c.args.names.now c.args.outcomes.now c.loop-index.index c.index-outcomes-index.result c.loop-index.tally (omega arith) c.index-outcomes-index.is c.loop-index.invariant)
