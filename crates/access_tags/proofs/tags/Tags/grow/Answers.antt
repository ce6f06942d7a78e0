use Rattle.std.proofs.Common.{arith}
use Rattle.access_tags.specs.{Shelf.tag_in, AccessLogs.touched_in}
use Rattle.access_tags.proofs.{Grown.no_tag_past, More.more_cells_stand}
use Rattle.access_tags.proofs.tags.Tags.grow.Goals as goal

pub returns-clause-stands : goal.returns-clause-stands
returns-clause-stands c n T t ts ls e s =
    let o = c.args.self.now in
    more_cells_stand n T t ts (tag_in o.cells) (tag_in o.named) (touched_in o.touched) s ls (tag_in c.grow.new.self)
    (λ l h. no_tag_past o.cells.pasts o.cells.readers o.cells.marks l o.cells.sound (omega arith)) c.in_ok-grow.ensures.tags
