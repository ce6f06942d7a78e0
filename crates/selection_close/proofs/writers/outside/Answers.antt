-- The raw writers stand in rising order, so the first one that is lacking is the least.
use Rattle.std.proofs.Common.{arith}
use Rattle.selection_close.proofs.Sets.{least_outside, held_next}
use Rattle.selection_close.proofs.writers.outside.Goals as goal

pub returns-then-not-has : goal.returns-then-not-has
returns-then-not-has c = least_outside c.args.g.now c.args.members.now c.args.test c.raw_of-writers.result.now c.loop-i.i c.raw_of-writers.ensures (omega arith) c.loop-i.invariant (cc)

pub loop-i-preserved : goal.loop-i-preserved
loop-i-preserved c = held_next c.args.members.now c.raw_of-writers.result.now c.loop-i.i (omega arith) c.loop-i.invariant (cc)
