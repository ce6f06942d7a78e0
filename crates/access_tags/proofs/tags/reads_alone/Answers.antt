use Rattle.std.proofs.Common.{◌≡◌, ◌<◌, ◌∙◌, false, ap, sym, subst}
use Rattle.access_tags.specs.declared.conflict.Touched.{Touched}
use Rattle.access_tags.specs.{Numbering.is_alone, Shelf.tag_in, Intervals.part_at, Within.room}
use Rattle.access_tags.proofs.Spanned.{one_fails, within_part}
use Rattle.access_tags.proofs.tags.reads_alone.Goals as goal

pub reads_alone_at-requires : goal.reads_alone_at-requires
reads_alone_at-requires c =
    let o = c.args in
    subst (λ (x : Touched). x.at < room o.cells.now o.named.now x.spot) (sym c.part.ensures) (within_part o.cells.now o.named.now o.interval c.loop-index.index c.requires.within c.loop-index.auto.index c.loop-index-test.true)

pub returns-then-not-reads_alone_at : goal.returns-then-not-reads_alone_at
returns-then-not-reads_alone_at c =
    let o = c.args in
    let i = c.loop-index.index in
    let f = λ (x : Touched). is_alone (tag_in o.cells.now) (tag_in o.named.now) o.field x in
    let e : f (part_at o.interval i) ≡ false = ap f (sym c.part.ensures) ∙ (sym c.reads_alone_at.ensures ∙ c.if-not-reads_alone_at.true) in
    sym (one_fails f o.interval i c.loop-index.auto.index c.loop-index-test.true e)
