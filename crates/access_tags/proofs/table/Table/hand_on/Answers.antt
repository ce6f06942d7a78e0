use Rattle.std.proofs.Common.{arith, ◌∙◌}
use Rattle.access_tags.specs.Rows.{key}
use Rattle.access_tags.proofs.Tally.{rows_more, none_more, none_at_all}
use Rattle.access_tags.proofs.table.Table.hand_on.Goals as goal

pub loop-earlier-preserved : goal.loop-earlier-preserved
loop-earlier-preserved c =
    let l = c.loop-earlier in
    let n = l.earlier in (
      l.invariant.0,
      c.hand_three_on.ensures.len ∙ l.invariant.1,
      λ i d h. c.in_ok-hand_three_on.ensures.later i d h ∙ l.invariant.2 i d (omega arith),
      λ hs k. rows_more n hs c.args.rows.now l.rows c.hand_three_on.new.rows (omega (arith, l.auto.earlier)) (l.invariant.3 hs k)
          (c.in_ok-hand_three_on.ensures.rows hs (λ j d. l.invariant.2 (key j n) d (omega arith) ∙ k j n d (omega (arith, c.loop-earlier-test.true, l.invariant.0)))),
      λ hs k. none_more n l.self.rows.items c.hand_three_on.new.table.items c.in_ok-hand_three_on.ensures.before
          (c.in_ok-hand_three_on.ensures.none hs (λ j d. l.invariant.2 (key j n) d (omega arith) ∙ k j n d (omega (arith, c.loop-earlier-test.true, l.invariant.0))))
          (l.invariant.4 hs k),
    )

pub returns-clause-none : goal.returns-clause-none
returns-clause-none c hs h =
    let l = c.loop-earlier in
    none_at_all l.self.later l.self.rows.items c.clear_first.new.table.items c.clear_first.ensures.later c.clear_first.ensures.none
    (λ u o k. l.invariant.4 hs h u o (omega (arith, c.loop-earlier-test.false)))
