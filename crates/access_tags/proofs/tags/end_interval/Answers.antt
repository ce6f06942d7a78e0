use Rattle.std.proofs.Common.{◌≡◌, ℕ, ◌+◌, ◌-◌, ◌∙◌, arith, refl, subst}
use Rattle.std.proofs.lemmas.Result.{on_ok_weaker}
use Rattle.access_tags.specs.{HaveEnded.HaveEnded, Shelf.tag_in, Intervals.part_at, Intervals.parts_of, Intervals.parts_to, Tag.ended, Tag.made_tag, Tag.with_changed}
use Rattle.access_tags.proofs.{Made.made_ended, More.within_more, Spanned.within_part}
use Rattle.access_tags.proofs.Parted.{ended_first, ended_one, ended_to}
use Rattle.access_tags.proofs.tags.end_interval.Goals as goal

pub loop-index-init : goal.loop-index-init
loop-index-init c =
    let o = c.args in
    (refl, refl, refl, ended_first o.test (tag_in o.cells.now) (tag_in o.named.now) o.table.now o.interval)

pub end_part-requires-clause-within : goal.end_part-requires-clause-within
end_part-requires-clause-within c =
    let o = c.args in
    let l = c.loop-index in
    let a = within_more (parts_of o.interval) o.cells.now l.cells o.named.now l.named (omega (arith, l.invariant.0)) (omega (arith, l.invariant.1)) c.requires.within in
    within_part l.cells l.named o.interval l.index a l.auto.index c.loop-index-test.true

pub loop-index-preserved : goal.loop-index-preserved
loop-index-preserved c =
    let o = c.args in
    let l = c.loop-index in
    let n = c.end_part.new in
    let e = c.in_ok-end_part.ensures in
    let one = ended_one o.test (tag_in l.cells) (tag_in l.named) (tag_in n.cells) (tag_in n.named) l.table n.table (part_at o.interval l.index) e.cells e.named e.counted in (
      e.cells_count ∙ l.invariant.0,
      e.named_count ∙ l.invariant.1,
      e.counted.later ∙ l.invariant.2,
      ended_to o.test (tag_in o.cells.now) (tag_in o.named.now) (tag_in l.cells) (tag_in l.named) (tag_in n.cells) (tag_in n.named) o.table.now l.table n.table o.interval l.index l.auto.index l.invariant.3 one,
    )

pub returns-clause-ended : goal.returns-clause-ended
returns-clause-ended c =
    let o = c.args in
    let l = c.loop-index in
    let e : l.index ≡ o.interval.end = omega (arith, c.loop-index-test.false, l.auto.index-end) in
    subst (λ (i : ℕ). HaveEnded o.test (tag_in o.cells.now) (tag_in o.named.now) (tag_in l.cells) (tag_in l.named) o.table.now l.table (parts_to o.interval i)) e l.invariant.3

pub end_made-requires-clause-made : goal.end_made-requires-clause-made
end_made-requires-clause-made c l a b =
    let s = c.args.interval in
    let i = s.first + (l - s.at) in
    let e : s.at + (i - s.first) ≡ l = omega arith in
    subst (λ (k : ℕ). tag_in c.args.cells.now k ≡ made_tag) e (c.is_made.ensures.made c.if-is_made.true i (omega arith) (omega (arith, c.number.ensures)))

pub returns-then-is_made-clause-ended : goal.returns-then-is_made-clause-ended
returns-then-is_made-clause-ended c =
    let o = c.args in
    let s = o.interval in
    on_ok_weaker c.end_made.result
    (λ g. made_ended o.test (tag_in o.cells.now) (tag_in o.named.now) o.table.now s (c.is_made.ensures.named c.if-is_made.true) (c.is_made.ensures.made c.if-is_made.true) (tag_in c.end_made.new.self) c.requires.order
    (λ l. subst (λ (e : ℕ). tag_in c.end_made.new.self l ≡ with_changed (ended o.test) (tag_in o.cells.now) s.at e l) c.number.ensures (g l)))
    c.end_made.ensures.tags
