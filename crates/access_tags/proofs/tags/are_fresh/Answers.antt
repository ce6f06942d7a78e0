use Rattle.std.proofs.Common.{◌∙◌}
use Rattle.access_tags.specs.Shelf.{tag_in}
use Rattle.access_tags.proofs.Parted.{fresh_parts}
use Rattle.access_tags.proofs.tags.are_fresh.Goals as goal

pub returns : goal.returns
returns c e d =
    let o = c.args in
    fresh_parts (tag_in o.cells.now) d o.interval (λ i. c.is_named.ensures o.interval.object i ∙ c.if-is_named.false) (c.is_fresh.ensures e)
