-- No test so far stands twice.
use Rattle.std.proofs.Common.{take}
use Rattle.order_law.specs.Conflicts.{Distinct}
use Rattle.selection_close.proofs.repeats.repeated.Given as goal

abbrev pub invariant-loop-i : goal.invariant-loop-i
invariant-loop-i l = Distinct (take l.i l.list)
