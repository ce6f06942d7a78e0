use Rattle.std.proofs.Common.{◌≡◌, ◌++◌, drop}
use Rattle.cone_run.specs.Marks.{without}
use Rattle.cone_run.proofs.marking.list_without.Given as goal

-- what was kept, and what is to be kept of the rest
abbrev pub invariant-loop-other : goal.invariant-loop-other
invariant-loop-other l = l.left ++ without l.test (drop l.other-index l.list) ≡ without l.test l.list
