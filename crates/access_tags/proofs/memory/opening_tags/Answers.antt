use Rattle.std.proofs.Common.{◌≡◌, length, arith}
use Rattle.access_tags.specs.Shelf.{count}
use Rattle.access_tags.proofs.Ending.{opened_tags}
use Rattle.access_tags.proofs.memory.opening_tags.Goals as goal

pub returns-clause-stands : goal.returns-clause-stands
returns-clause-stands c =
    let a = c.new-tags.ensures.cells in
    let g = c.in_ok-grow.ensures.cells in let l = c.len.ensures in
    let b : count c.grow.new.self.cells ≡ length c.args.p.now.fields = omega arith in
    opened_tags c.args.p.now c.new-tags.result c.grow.new.self c.grow-2.new.self a b c.new-tags.ensures.stands c.in_ok-grow.ensures.stands c.in_ok-grow-2.ensures.stands
