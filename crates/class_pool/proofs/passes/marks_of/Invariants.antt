use Rattle.std.proofs.Common.{◌≡◌, take, map}
use Rattle.class_pool.specs.Marks.{mark_of}
use Rattle.class_pool.proofs.passes.marks_of.Given as goal

abbrev pub invariant-loop-slot : goal.invariant-loop-slot
invariant-loop-slot l = l.marks.items ≡ map mark_of (take l.slot-index l.slots)
