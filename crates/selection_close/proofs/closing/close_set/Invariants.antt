-- The numbers so far are closed.
use Rattle.selection_close.specs.Closed.{IsClosedFrom}
use Rattle.selection_close.proofs.closing.close_set.Given as goal

abbrev pub invariant-loop-k : goal.invariant-loop-k
invariant-loop-k l = IsClosedFrom l.g l.fn.set l.set l.k
