-- The first of the shares so far with the least load of these.
use Rattle.schedule_plan.specs.Plans.{IsLeastLoaded}
use Rattle.schedule_plan.proofs.shares.least_loaded.Given as goal

abbrev pub invariant-loop-worker : goal.invariant-loop-worker
invariant-loop-worker l = IsLeastLoaded l.shares l.worker l.least
