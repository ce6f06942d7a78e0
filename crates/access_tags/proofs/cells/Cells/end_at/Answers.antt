use Rattle.std.proofs.Common.{◌≡◌, get_or, reverse, arith, ◌∙◌, ap, subst}
use Rattle.std.proofs.lemmas.List.{get_or_default}
use Rattle.access_tags.specs.declared.mark.{Mark.Mark, Past.Past}
use Rattle.access_tags.specs.Tag.{Tag, conflicts_at, no_mark}
use Rattle.access_tags.specs.{Cells.no_past, Cells.tag_by, Counted.HaveCounted, Intervals.part_at, Shelf.tag_in}
use Rattle.access_tags.proofs.cells.Cells.end_at.Goals as goal

pub settle-requires-clause-mark : goal.settle-requires-clause-mark
settle-requires-clause-mark c = c.get-mark.ensures ∙ get_or_default c.reach.new.self.marks c.args.at c.get-mark.result no_mark (omega (arith, c.requires, c.in_ok-reach.ensures.count))

pub settle-requires-clause-past : goal.settle-requires-clause-past
settle-requires-clause-past c = c.get-past.ensures ∙ get_or_default c.reach.new.self.pasts c.args.at c.get-past.result no_past (omega (arith, c.in_ok-reach.ensures.room))

pub returns-clause-counted : goal.returns-clause-counted
returns-clause-counted c =
    let n = c.reach.new.self in
    let at = c.args.at in
    let rs = reverse n.readers in
    let place = (part_at c.args.interval c.args.index).spot in
    let m : c.get-mark.result ≡ get_or n.marks at no_mark = c.get-mark.ensures ∙ get_or_default n.marks at c.get-mark.result no_mark (omega (arith, c.requires, c.in_ok-reach.ensures.count)) in
    let p : c.get-past.result ≡ get_or n.pasts at no_past = c.get-past.ensures ∙ get_or_default n.pasts at c.get-past.result no_past (omega (arith, c.in_ok-reach.ensures.room)) in
    let e : tag_by c.get-past.result rs c.get-mark.result ≡ tag_in c.args.self.now at =
    ap (λ (x : Past). tag_by x rs c.get-mark.result) p ∙ (ap (λ (x : Mark). tag_by (get_or n.pasts at no_past) rs x) m ∙ c.in_ok-reach.ensures.tags at) in
    subst (λ (g : Tag). HaveCounted c.args.table.now c.count_past.new.table (conflicts_at place g)) e c.in_ok-count_past.ensures
