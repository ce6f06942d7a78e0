-- The units of the tests so far.
use Rattle.std.proofs.Common.{◌≡◌, take}
use Rattle.schedule_plan.specs.Plans.{units_of}
use Rattle.schedule_plan.proofs.sizes.total.Given as goal

abbrev pub invariant-loop-i : goal.invariant-loop-i
invariant-loop-i l = l.total ≡ units_of l.units (take l.i l.list)
