use Rattle.std.proofs.Common.{take}
use Rattle.access_tags.specs.{Counted.HaveCounted, Numbering.conflicts_in, Shelf.tag_in, Intervals.parts}
use Rattle.access_tags.proofs.tags.count_all.Given as goal

abbrev pub invariant-loop-i : goal.invariant-loop-i
invariant-loop-i l = HaveCounted l.fn.table l.table (conflicts_in (tag_in l.cells) (tag_in l.named) (parts (take l.i l.touched.intervals)))
