use Rattle.std.proofs.Common.{◌≡◌, map, take}
use Rattle.class_link.specs.References.{target_of}
use Rattle.class_link.proofs.targets.targets_of.Given as goal

abbrev pub invariant-loop-slot : goal.invariant-loop-slot
invariant-loop-slot l = l.targets ≡ map (target_of l.setting l.slots) (take l.slot-index l.slots)
