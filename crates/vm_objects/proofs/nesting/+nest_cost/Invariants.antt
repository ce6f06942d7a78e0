use Rattle.std.proofs.Common.{length}
use Rattle.vm_objects.proofs.nesting.+nest_cost.Given as goal

abbrev pub decreases-nest_cost : goal.decreases-nest_cost
decreases-nest_cost l = length l.inner.now
