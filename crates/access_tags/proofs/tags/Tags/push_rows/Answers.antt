use Rattle.std.proofs.Common.{◌≡◌, ◌++◌, ◌∙◌, ℕ, [], ap}
use Rattle.access_tags.specs.{Numbering.conflicts_in, Rows.rows_to, Shelf.tag_in, AccessLogs.touched_in}
use Rattle.access_tags.proofs.{ShownRows.rows_shown, Stood.conflicts_stand}
use Rattle.access_tags.proofs.tags.Tags.push_rows.Goals as goal

pub returns : goal.returns
returns c n T t ts p by e f s =
    let o = c.args.self.now in
    let hs = conflicts_in (tag_in o.cells) (tag_in o.named) (touched_in o.touched) in
    let l : c.count_all.new.table.later ≡ c.args.test = c.in_ok-count_all.ensures.later ∙ c.in_ok-table.ensures.later in (
      rows_to c.args.test hs,
      c.in_ok-hand_on.ensures.rows hs (c.in_ok-count_all.ensures.counts [] c.in_ok-table.ensures.counts) ∙ ap (λ (m : ℕ). c.args.rows.now ++ rows_to m hs) l,
      rows_shown n p by T t c.args.test ts hs e f (conflicts_stand n T t ts (tag_in o.cells) (tag_in o.named) (touched_in o.touched) s),
    )
