use Rattle.std.proofs.Common.{◌≡◌, ℕ, ◌+◌}
use Rattle.cone_run.specs.{Marking.AreMarksTo, Marks.AreUnits}
use Rattle.cone_run.proofs.marking.marks_on.Given as goal

-- the marks of the tests before this one, and what was counted for them
abbrev pub invariant-loop-index : goal.invariant-loop-index
invariant-loop-index g l = record {
  program : l.machine.program ≡ l.fn.machine.program;
  marks : AreMarksTo l.fn.machine.program l.g l.index l.marks;
  counted : (units : ℕ) × AreUnits l.fn.machine.program l.g l.index units × (l.steps ≡ l.fn.steps + units);
}
