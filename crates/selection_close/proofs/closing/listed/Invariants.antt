-- The tests below this one are listed.
use Rattle.selection_close.specs.Closed.{IsListed}
use Rattle.selection_close.proofs.closing.listed.Given as goal

abbrev pub invariant-loop-t : goal.invariant-loop-t
invariant-loop-t l = IsListed l.set l.t l.list
