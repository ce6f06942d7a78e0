use Rattle.std.proofs.Common.{arith}
use Rattle.cell_region.specs.Chunks.{joined}
use Rattle.cell_region.proofs.Places.{filled_view, length-joined}
use Rattle.cell_region.proofs.region.Region.fill.Goals as goal

pub returns : goal.returns
returns g c =
    let s = c.self.inside in
    let l = length-joined s.chunks.items c.self.invariant.0 in
    filled_view (joined s.chunks.items) (joined c.fill_cells.new.chunks.items) c.args.self.now s.len c.args.start c.args.end c.args.content (omega (arith, c.self.invariant.1)) c.requires.within c.self.view_is c.fill_cells.ensures.filled
