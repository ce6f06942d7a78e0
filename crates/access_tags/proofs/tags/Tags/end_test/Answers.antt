use Rattle.std.proofs.Common.{◌≡◌, ◌++◌, ◌∙◌, ℕ, [], List, ap, sym, subst, arith}
use Rattle.access_tags.specs.declared.conflict.Touched.{Touched}
use Rattle.access_tags.specs.{Numbering.conflicts_in, Rows.rows_to, Shelf.tag_in, Stands.StandFor, AccessLogs.touched_in, Unread.AreUnread, Within.AreWithin}
use Rattle.access_tags.proofs.ShownRows.{rows_shown}
use Rattle.access_tags.proofs.Stood.{apart, conflicts_stand, ended_stands}
use Rattle.access_tags.proofs.tags.Tags.end_test.Goals as goal

pub invariant_of-self-2 : goal.invariant_of-self-2
invariant_of-self-2 c =
    let n = c.end_all.new in
    let some = c.in_ok-end_all.ensures.ended.some in
    record {
      within = subst (λ (ys : List Touched). AreWithin n.cells n.named ys) (sym c.clear.ensures) (λ k d h. absurd (omega (arith, h)));
      unread = λ q. subst (λ (ys : List Touched). AreUnread (tag_in n.cells) (tag_in n.named) ys) (sym c.clear.ensures) (λ k d h. absurd (omega (arith, h)));
      counted = c.in_ok-hand_on.ensures.none some.0 (some.1.counts [] c.in_ok-table.ensures.counts);
    }

pub returns-clause-rows : goal.returns-clause-rows
returns-clause-rows c n T t ts p by e f s =
    let o = c.args.self.now in
    let xs = touched_in o.touched in
    let a = c.in_ok-end_all.ensures.ended.apart n s.placed (apart n T t ts (tag_in o.cells) (tag_in o.named) xs s) in
    let hs = conflicts_in (tag_in o.cells) (tag_in o.named) xs in
    let l : c.end_all.new.table.later ≡ c.args.test = c.in_ok-end_all.ensures.later ∙ c.in_ok-table.ensures.later in (
      rows_to c.args.test hs,
      c.in_ok-hand_on.ensures.rows hs (a.counted.counts [] c.in_ok-table.ensures.counts) ∙ ap (λ (m : ℕ). c.args.rows.now ++ rows_to m hs) l,
      rows_shown n p by T t c.args.test ts hs e f (conflicts_stand n T t ts (tag_in o.cells) (tag_in o.named) xs s),
    )

pub returns-clause-stands : goal.returns-clause-stands
returns-clause-stands c n T t ts e f s =
    let o = c.args.self.now in
    let xs = touched_in o.touched in
    let a = c.in_ok-end_all.ensures.ended.apart n s.placed (apart n T t ts (tag_in o.cells) (tag_in o.named) xs s) in
    let cs = tag_in c.end_all.new.cells in
    let ds = tag_in c.end_all.new.named in
    subst (λ (ys : List Touched). StandFor n T c.args.test [] cs ds ys) (sym c.clear.ensures)
    (ended_stands n T t ts (tag_in o.cells) (tag_in o.named) xs s c.args.test cs ds e f a.tags)
