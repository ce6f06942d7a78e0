use Rattle.std.proofs.Common.{◌≡◌, ◌<◌, ◌∙◌, List, length, arith, refl, sym, subst}
use Rattle.access_tags.specs.declared.conflict.Touched.{Touched}
use Rattle.access_tags.specs.declared.interval.Interval.{Interval}
use Rattle.access_tags.specs.{HaveEnded.HaveEnded, Shelf.tag_in, Intervals.parts, Intervals.parts_of, Within.AreWithin}
use Rattle.access_tags.proofs.{More.within_more, Parted.ended_none, Parted.ended_parts}
use Rattle.access_tags.proofs.Spanned.{parts_all, within_interval}
use Rattle.access_tags.proofs.tags.end_all.Goals as goal

pub loop-i-init : goal.loop-i-init
loop-i-init c = let o = c.args in (refl, refl, refl, ended_none o.test (tag_in o.cells.now) (tag_in o.named.now) o.table.now)

pub end_interval-requires-clause-within : goal.end_interval-requires-clause-within
end_interval-requires-clause-within c =
    let o = c.args in
    let l = c.loop-i in
    let ss = o.touched.now.intervals in
    let h : l.i < length ss = omega (arith, c.loop-i-test.true, c.len-i-end.ensures) in
    let a = within_more (parts ss) o.cells.now l.cells o.named.now l.named (omega (arith, l.invariant.0)) (omega (arith, l.invariant.1)) c.requires in
    subst (λ (s : Interval). AreWithin l.cells l.named (parts_of s)) (sym c.get.ensures.is) (within_interval l.cells l.named ss l.i c.get.result a h)

pub loop-i-preserved : goal.loop-i-preserved
loop-i-preserved c =
    let o = c.args in
    let l = c.loop-i in
    let n = c.end_interval.new in
    let e = c.in_ok-end_interval.ensures in
    let ss = o.touched.now.intervals in
    let h : l.i < length ss = omega (arith, c.loop-i-test.true, c.len-i-end.ensures) in (
      e.cells_count ∙ l.invariant.0,
      e.named_count ∙ l.invariant.1,
      e.later ∙ l.invariant.2,
      ended_parts o.test (tag_in o.cells.now) (tag_in o.named.now) (tag_in l.cells) (tag_in l.named) (tag_in n.cells) (tag_in n.named) o.table.now l.table n.table ss l.i c.get.result h l.invariant.3
          (subst (λ (s : Interval). HaveEnded o.test (tag_in l.cells) (tag_in l.named) (tag_in n.cells) (tag_in n.named) l.table n.table (parts_of s)) c.get.ensures.is e.ended),
    )

pub returns-clause-ended : goal.returns-clause-ended
returns-clause-ended c =
    let o = c.args in
    let l = c.loop-i in
    let ss = o.touched.now.intervals in
    let e : l.i ≡ length ss = omega (arith, c.loop-i-test.false, l.auto.i-end, c.len-i-end.ensures) in
    subst (λ (xs : List Touched). HaveEnded o.test (tag_in o.cells.now) (tag_in o.named.now) (tag_in l.cells) (tag_in l.named) o.table.now l.table xs) (parts_all ss l.i e) l.invariant.3
