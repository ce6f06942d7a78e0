use Rattle.std.proofs.Common.{length, All}
use Rattle.electrictest.specs.Selections.{pieces_of, IsTestOf}
use Rattle.electrictest.proofs.SelectionLaws.{AreSoFar}
use Rattle.electrictest.proofs.selections.ordered.Given as goal

-- the tests of the pieces so far
abbrev pub invariant-loop-name : goal.invariant-loop-name
invariant-loop-name l = record {
  can : (goal.iterator-loop-name).can_next l.name-iterator;
  finite : (goal.iterator-loop-name).is_finite l.name-iterator;
  so_far : AreSoFar l.names (pieces_of l.word) (length l.yielded) l.tests;
  tests : All (IsTestOf l.names) l.tests;
}
