use Rattle.std.proofs.Common.{arith, length}
use Rattle.electrictest.specs.Orders.{paired}
use Rattle.electrictest.proofs.OrderLists.{behind_none, behind_more, behind_all}
use Rattle.electrictest.proofs.reports.push_in_order.Goals as goal

pub loop-index-init : goal.loop-index-init
loop-index-init c = behind_none c.args.names.now (paired c.args.tests.now c.args.outcomes.now) (length c.args.names.now.tests) c.args.out.now

pub loop-index-preserved : goal.loop-index-preserved
loop-index-preserved c =
    behind_more c.args.names.now (paired c.args.tests.now c.args.outcomes.now) (length c.args.names.now.tests) c.loop-index.index _ _ _ (omega arith) c.loop-index.invariant c.in_ok-push_listed.ensures

pub returns : goal.returns
returns c = behind_all c.args.names.now (paired c.args.tests.now c.args.outcomes.now) (length c.args.names.now.tests) c.loop-index.index _ _ (omega arith) c.loop-index.invariant
