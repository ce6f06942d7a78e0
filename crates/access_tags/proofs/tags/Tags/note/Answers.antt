use Rattle.access_tags.specs.{Shelf.tag_in, AccessLogs.touched_in}
use Rattle.access_tags.proofs.Stood.{covered_stands}
use Rattle.access_tags.proofs.tags.Tags.note.Goals as goal

pub returns-then-covers-clause-stands : goal.returns-then-covers-clause-stands
returns-then-covers-clause-stands c n T t ts x p w l s =
    let o = c.args.self.now in
    covered_stands n T t ts (tag_in o.cells) (tag_in o.named) (touched_in o.touched) s _ x c.args.write w p l (c.covers.ensures c.if-covers.true)

pub returns-in-Field-false-clause-stands : goal.returns-in-Field-false-clause-stands
returns-in-Field-false-clause-stands c = rw c.in-Field-false.is-0 (rw c.in-Field-false.is-1 c.note_field_read.ensures.stands)

pub returns-in-Elem-false-clause-stands : goal.returns-in-Elem-false-clause-stands
returns-in-Elem-false-clause-stands c = rw c.in-Elem-false.is-0 (rw c.in-Elem-false.is-1 c.note_elem_read.ensures.stands)
