use Rattle.std.proofs.Common.{take}
use Rattle.cone_run.specs.Cones.{AreCones}
use Rattle.cone_run.proofs.cone_pool.cones_of.Given as goal

-- the cones of the tests before this one
abbrev pub invariant-loop-index : goal.invariant-loop-index
invariant-loop-index l = AreCones l.g (take l.index l.sel) l.lists
