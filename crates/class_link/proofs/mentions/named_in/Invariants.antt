use Rattle.std.proofs.Common.{length, take}
use Rattle.std.specs.List.{flat_map}
use Rattle.class_link.specs.{Assembly.mentioned_by, Marks.Lists}
use Rattle.class_link.proofs.mentions.named_in.Given as goal

abbrev pub invariant-loop-slot : goal.invariant-loop-slot
invariant-loop-slot l = Lists l.table.items (length l.names) (flat_map (mentioned_by l.names l.slots) (take l.slot-index l.slots))
