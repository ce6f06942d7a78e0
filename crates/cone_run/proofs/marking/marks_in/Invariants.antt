use Rattle.std.proofs.Common.{◌≡◌, ◌+◌, take, sum_by}
use Rattle.cone_run.specs.{Cones.cone_units, Marking.AreMarksIn, Marks.without}
use Rattle.cone_run.proofs.marking.marks_in.Given as goal

-- the marks of the writers before this one
abbrev pub invariant-loop-index : goal.invariant-loop-index
invariant-loop-index g l = record {
  program : l.machine.program ≡ l.fn.machine.program;
  marks : AreMarksIn l.fn.machine.program l.cone l.outcome l.test (take l.index l.writers) l.marks;
  counted : l.steps ≡ l.fn.steps + sum_by (λ u. cone_units l.fn.machine.program (without u l.cone)) (take l.index l.writers);
}
