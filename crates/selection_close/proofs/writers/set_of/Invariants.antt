-- The set has the tests so far.
use Rattle.std.proofs.Common.{take}
use Rattle.selection_close.specs.Faults.{HoldsList}
use Rattle.selection_close.proofs.writers.set_of.Given as goal

abbrev pub invariant-loop-i : goal.invariant-loop-i
invariant-loop-i l = HoldsList l.set (take l.i l.list)
