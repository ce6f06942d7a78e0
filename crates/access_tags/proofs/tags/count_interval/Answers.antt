use Rattle.std.proofs.Common.{List}
use Rattle.access_tags.specs.declared.conflict.{Conflict.Conflict, LocationKey.LocationKey, Touched.Touched}
use Rattle.access_tags.specs.{Numbering.tag_at, Shelf.tag_in, Tag.conflicts_at}
use Rattle.access_tags.proofs.{Parted.counted_to, Spanned.within_part}
use Rattle.access_tags.proofs.tags.count_interval.Goals as goal

pub count_part-requires-clause-within : goal.count_part-requires-clause-within
count_part-requires-clause-within c =
    let o = c.args in
    within_part o.cells.now o.named.now o.interval c.loop-index.index c.requires.within c.loop-index.auto.index c.loop-index-test.true

pub loop-index-preserved : goal.loop-index-preserved
loop-index-preserved c =
    let o = c.args in
    let l = c.loop-index in
    let f : Touched → List (Conflict LocationKey) = λ x. conflicts_at x.spot (tag_at (tag_in o.cells.now) (tag_in o.named.now) x) in
    counted_to f o.table.now l.table c.count_part.new.table o.interval l.index l.auto.index l.invariant c.in_ok-count_part.ensures
