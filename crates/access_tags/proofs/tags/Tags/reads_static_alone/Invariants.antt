use Rattle.std.proofs.Common.{◌≡◌, take, true}
use Rattle.access_tags.specs.{Numbering.are_alone, Shelf.tag_in, Intervals.parts}
use Rattle.access_tags.proofs.tags.Tags.reads_static_alone.Given as goal

abbrev pub invariant-loop-i : goal.invariant-loop-i
invariant-loop-i l = are_alone (tag_in l.self.cells) (tag_in l.self.named) l.field (parts (take l.i l.self.touched.intervals)) ≡ true
