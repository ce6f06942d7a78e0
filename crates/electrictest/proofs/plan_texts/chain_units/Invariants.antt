use Rattle.std.proofs.Common.{◌≡◌, take}
use Rattle.schedule_plan.specs.Plans.{units_of}
use Rattle.electrictest.proofs.plan_texts.chain_units.Given as goal

-- the units of the tests so far
abbrev pub invariant-loop-i : goal.invariant-loop-i
invariant-loop-i l = l.total ≡ units_of l.units (take l.i l.tests)
