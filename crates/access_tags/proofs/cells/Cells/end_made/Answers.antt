use Rattle.std.proofs.Common.{◌&&◌, cond, nat_le, nat_lt, ◌∙◌, ap}
use Rattle.access_tags.specs.Tag.{Tag, ended}
use Rattle.access_tags.proofs.Filled.{ended_all}
use Rattle.access_tags.proofs.cells.Cells.end_made.Goals as goal

pub returns-clause-tags : goal.returns-clause-tags
returns-clause-tags c l =
    let o = c.reach.new.self in
    let first = c.args.first in
    let end = c.args.end in
    ended_all o.pasts c.fill-2.new.self o.readers o.marks c.fill.new.self first end c.args.test c.fill-2.ensures c.fill.ensures l (λ k a b. c.in_ok-reach.ensures.tags k ∙ c.requires.made k a b)
    ∙ ap (λ (g : Tag). cond (nat_le first l && nat_lt l end) (ended c.args.test g) g) (c.in_ok-reach.ensures.tags l)
