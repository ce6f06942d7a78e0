-- The test is before none at the places so far.
use Rattle.selection_close.specs.Faults.{IsBeforeNone}
use Rattle.selection_close.proofs.inversions.first_after.Given as goal

abbrev pub invariant-loop-q : goal.invariant-loop-q
invariant-loop-q l = IsBeforeNone l.g l.list l.place l.q
