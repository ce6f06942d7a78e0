use Rattle.std.proofs.Common.{arith}
use Rattle.electrictest.proofs.OrderLists.{listed_more, listed_all}
use Rattle.electrictest.proofs.reports.push_listed.Goals as goal

pub loop-place-preserved : goal.loop-place-preserved
loop-place-preserved c =
    listed_more c.args.names.now c.args.test c.args.tests.now c.args.outcomes.now c.loop-place.place c.index-outcomes-place.result _ _ _ (omega arith) c.requires.each c.index-outcomes-place.is c.loop-place.invariant c.in_ok-push_one.ensures

pub returns : goal.returns
returns c = listed_all c.args.names.now c.args.test c.args.tests.now c.args.outcomes.now c.loop-place.place _ _ (omega arith) c.loop-place.invariant
