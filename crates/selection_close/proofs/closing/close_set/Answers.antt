-- The next number downward is closed.
use Rattle.std.proofs.Common.{arith}
use Rattle.selection_close.proofs.Closings.{closed_begun, closed_next}
use Rattle.selection_close.proofs.closing.close_set.Goals as goal

pub loop-k-init : goal.loop-k-init
loop-k-init c = closed_begun c.args.g.now c.args.set.now

pub loop-k-preserved : goal.loop-k-preserved
loop-k-preserved c = closed_next c.args.g.now c.args.set.now c.loop-k.set c.close_at.new.set c.loop-k.k (omega arith) c.goes_up.ensures c.loop-k.invariant c.close_at.ensures
