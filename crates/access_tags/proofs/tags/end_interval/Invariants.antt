use Rattle.std.proofs.Common.{◌≡◌}
use Rattle.access_tags.specs.{HaveEnded.HaveEnded, Shelf.tag_in, Shelf.count, Intervals.parts_to}
use Rattle.access_tags.proofs.tags.end_interval.Given as goal

abbrev pub invariant-loop-index : goal.invariant-loop-index
invariant-loop-index l = (count l.cells ≡ count l.fn.cells) × (count l.named ≡ count l.fn.named) × (l.table.later ≡ l.fn.table.later)
    × HaveEnded l.test (tag_in l.fn.cells) (tag_in l.fn.named) (tag_in l.cells) (tag_in l.named) l.fn.table l.table (parts_to l.interval l.index)
