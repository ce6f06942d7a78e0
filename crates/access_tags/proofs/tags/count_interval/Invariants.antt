use Rattle.access_tags.specs.{Counted.HaveCounted, Numbering.conflicts_in, Shelf.tag_in, Intervals.parts_to}
use Rattle.access_tags.proofs.tags.count_interval.Given as goal

abbrev pub invariant-loop-index : goal.invariant-loop-index
invariant-loop-index l = HaveCounted l.fn.table l.table (conflicts_in (tag_in l.cells) (tag_in l.named) (parts_to l.interval l.index))
