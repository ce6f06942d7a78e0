use Rattle.std.proofs.Common.{◌≡◌, ◌+◌, take}
use Rattle.worker_pool.specs.Plans.{units_of}
use Rattle.worker_pool.proofs.finish.count.Given as goal

abbrev pub invariant-loop-event : goal.invariant-loop-event
invariant-loop-event g l = l.steps ≡ l.initial.steps + units_of (take l.event-index l.events)
