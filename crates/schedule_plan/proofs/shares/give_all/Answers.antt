-- The next chain is given.
use Rattle.std.proofs.Common.{arith, length}
use Rattle.schedule_plan.specs.Grouping.{at}
use Rattle.schedule_plan.proofs.{Places.member_get, Dealing.placed_more, Dealing.placed_all, Dealing.loads_within}
use Rattle.schedule_plan.proofs.shares.give_all.Goals as goal

pub loop-i-init : goal.loop-i-init
loop-i-init c = c.requires.none

pub give-requires-clause-small : goal.give-requires-clause-small
give-requires-clause-small c = let a = loads_within c.args.sizes.now c.args.order.now c.loop-i.i (length c.args.shares.now) c.loop-i.shares c.requires.order (omega arith) c.loop-i.invariant in omega arith

pub loop-i-preserved : goal.loop-i-preserved
loop-i-preserved c = placed_more c.args.sizes.now c.args.order.now c.loop-i.i (length c.args.shares.now) c.loop-i.shares c.give.new.shares c.requires.order.falling (omega arith) c.loop-i.invariant c.in_ok-give.ensures

pub returns : goal.returns
returns c = placed_all c.args.sizes.now c.args.order.now c.loop-i.i (length c.args.shares.now) c.loop-i.shares (omega arith) c.loop-i.invariant

pub bounds-sizes-chain : goal.bounds-sizes-chain
bounds-sizes-chain c = (c.requires.order.exact (at c.args.order.now c.loop-i.i)).0 (member_get c.args.order.now c.loop-i.i (omega arith))
