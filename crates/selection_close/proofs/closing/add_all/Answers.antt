-- One more test is added.
use Rattle.std.proofs.Common.{arith}
use Rattle.selection_close.proofs.Closings.{grown_next}
use Rattle.selection_close.proofs.closing.add_all.Goals as goal

pub loop-i-preserved : goal.loop-i-preserved
loop-i-preserved c = grown_next c.args.set.now c.loop-i.set c.add.new.set c.args.tests.now c.loop-i.i (omega arith) c.loop-i.invariant c.add.ensures
