use Rattle.std.proofs.Common.{◌≡◌, drop}
use Rattle.class_pool.specs.Pool.{pass, wrong_index}
use Rattle.class_pool.proofs.passes.first_wrong_index.Given as goal

abbrev pub invariant-loop-slot : goal.invariant-loop-slot
invariant-loop-slot l = pass (wrong_index l.slots) l.left (drop l.slot-index l.slots) ≡ pass (wrong_index l.slots) l.from l.slots
