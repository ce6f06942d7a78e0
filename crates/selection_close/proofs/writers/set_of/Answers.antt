-- One more test is added.
use Rattle.std.proofs.Common.{arith}
use Rattle.selection_close.proofs.Sets.{holds_next}
use Rattle.selection_close.proofs.writers.set_of.Goals as goal

pub loop-i-preserved : goal.loop-i-preserved
loop-i-preserved c = holds_next c.loop-i.set c.add.new.set c.args.list.now c.loop-i.i (omega arith) c.loop-i.invariant c.add.ensures
