use Rattle.std.proofs.Common.{◌<◌, List, length, flat_map, arith, sym, subst}
use Rattle.access_tags.specs.declared.conflict.{Conflict.Conflict, LocationKey.LocationKey, Touched.Touched}
use Rattle.access_tags.specs.declared.interval.Interval.{Interval}
use Rattle.access_tags.specs.{Counted.HaveCounted, Numbering.tag_at, Shelf.tag_in, Intervals.parts_of, Tag.conflicts_at, Within.AreWithin}
use Rattle.access_tags.proofs.{Parted.counted_parts, Spanned.within_interval}
use Rattle.access_tags.proofs.tags.count_all.Goals as goal

pub count_interval-requires-clause-within : goal.count_interval-requires-clause-within
count_interval-requires-clause-within c =
    let o = c.args in
    let ss = o.touched.now.intervals in
    let h : c.loop-i.i < length ss = omega (arith, c.loop-i-test.true, c.len-i-end.ensures) in
    subst (λ (s : Interval). AreWithin o.cells.now o.named.now (parts_of s)) (sym c.get.ensures.is) (within_interval o.cells.now o.named.now ss c.loop-i.i c.get.result c.requires h)

pub loop-i-preserved : goal.loop-i-preserved
loop-i-preserved c =
    let o = c.args in
    let l = c.loop-i in
    let ss = o.touched.now.intervals in
    let h : l.i < length ss = omega (arith, c.loop-i-test.true, c.len-i-end.ensures) in
    let f : Touched → List (Conflict LocationKey) = λ x. conflicts_at x.spot (tag_at (tag_in o.cells.now) (tag_in o.named.now) x) in
    counted_parts f o.table.now l.table c.count_interval.new.table ss l.i c.get.result h l.invariant
    (subst (λ (s : Interval). HaveCounted l.table c.count_interval.new.table (flat_map f (parts_of s))) c.get.ensures.is c.in_ok-count_interval.ensures)
