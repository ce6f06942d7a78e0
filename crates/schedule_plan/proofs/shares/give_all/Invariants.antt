-- The chains so far are given.
use Rattle.std.proofs.Common.{take, length}
use Rattle.schedule_plan.specs.Plans.{ArePlaced}
use Rattle.schedule_plan.proofs.shares.give_all.Given as goal

abbrev pub invariant-loop-i : goal.invariant-loop-i
invariant-loop-i l = ArePlaced l.sizes (take l.i l.order) (length l.fn.shares) l.shares
