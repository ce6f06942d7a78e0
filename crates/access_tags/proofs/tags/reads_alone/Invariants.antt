use Rattle.std.proofs.Common.{◌≡◌, true}
use Rattle.access_tags.specs.{Numbering.are_alone, Shelf.tag_in, Intervals.parts_to}
use Rattle.access_tags.proofs.tags.reads_alone.Given as goal

abbrev pub invariant-loop-index : goal.invariant-loop-index
invariant-loop-index l = are_alone (tag_in l.cells) (tag_in l.named) l.field (parts_to l.interval l.index) ≡ true
