use Rattle.std.proofs.Common.{arith}
use Rattle.access_tags.specs.{Intervals.part_at, Shelf.tag_in}
use Rattle.access_tags.proofs.{Grown.fresh_past, Parted.counted_fresh}
use Rattle.access_tags.proofs.cells.Cells.count_at.Goals as goal

pub returns-then-at-len : goal.returns-then-at-len
returns-then-at-len c =
    let o = c.args.self.now in
    let g = fresh_past o.pasts o.readers o.marks c.args.at (omega (arith, c.if-at-len.true, c.len.ensures)) c.args.at (omega arith) in
    counted_fresh c.args.table.now (part_at c.args.interval c.args.index).spot (tag_in o c.args.at) g.0 g.1
