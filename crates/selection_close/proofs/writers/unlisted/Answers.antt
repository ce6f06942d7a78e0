-- The next test has its raw writers in the list.
use Rattle.std.proofs.Common.{arith}
use Rattle.selection_close.proofs.Sets.{writers_next}
use Rattle.selection_close.proofs.writers.unlisted.Goals as goal

pub loop-i-preserved : goal.loop-i-preserved
loop-i-preserved c = writers_next c.args.g.now c.args.list.now c.set_of-members.result c.loop-i.i c.goes_up.ensures c.set_of-members.ensures (omega arith) c.loop-i.invariant c.in_default.ensures
