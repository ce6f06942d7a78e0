use Rattle.std.proofs.Common.{◌≡◌, take}
use Rattle.access_tags.specs.{HaveEnded.HaveEnded, Shelf.tag_in, Shelf.count, Intervals.parts}
use Rattle.access_tags.proofs.tags.end_all.Given as goal

abbrev pub invariant-loop-i : goal.invariant-loop-i
invariant-loop-i l = (count l.cells ≡ count l.fn.cells) × (count l.named ≡ count l.fn.named) × (l.table.later ≡ l.fn.table.later)
    × HaveEnded l.test (tag_in l.fn.cells) (tag_in l.fn.named) (tag_in l.cells) (tag_in l.named) l.fn.table l.table (parts (take l.i l.touched.intervals))
