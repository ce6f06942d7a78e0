-- The next test is listed, where the set holds it.
use Rattle.selection_close.proofs.Closings.{listed_next}
use Rattle.selection_close.proofs.closing.listed.Goals as goal

pub loop-t-preserved : goal.loop-t-preserved
loop-t-preserved c = listed_next c.args.set.now c.loop-t.t c.loop-t.list c.push_held.new.list c.loop-t.invariant c.in_ok-push_held.ensures
