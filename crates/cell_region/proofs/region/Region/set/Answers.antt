use Rattle.std.proofs.Common.{◌<◌, arith}
use Rattle.cell_region.proofs.Places.{view_length, view_set}
use Rattle.cell_region.proofs.region.Region.set.Goals as goal

pub returns : goal.returns
returns g c =
    let m = view_length c.self.inside.chunks.items _ _ c.self.invariant.0 c.self.invariant.1 c.self.view_is in
    let k : c.args.i < c.self.inside.len = omega arith in
    view_set c.self.inside.chunks.items c.set_cell.new.chunks.items c.self.inside.len c.args.i c.args.self.now c.args.content c.self.view_is k c.set_cell.ensures.set
