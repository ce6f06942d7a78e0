use Rattle.std.proofs.Common.{◌<◌, ◌/◌, length, arith, ap, ◌∙◌}
use Rattle.cell_region.specs.Chunks.{chunk_size}
use Rattle.cell_region.proofs.Places.{view_length, view_get, long_at}
use Rattle.cell_region.proofs.region.Region.get.Goals as goal

pub get-requires : goal.get-requires
get-requires g c =
    let m = view_length _ _ _ c.self.invariant.0 c.self.invariant.1 c.self.view_is in
    let q : c.args.i / chunk_size < length c.self.inside.chunks.items = omega arith in
    let l = ap length c.index.ensures ∙ long_at c.self.inside.chunks.items (c.args.i / chunk_size) c.index.result.now c.self.invariant.0 q in
    omega arith

pub returns : goal.returns
returns g c = view_get _ _ _ _ _ _ c.self.invariant.0 c.self.invariant.1 c.self.view_is c.requires c.index.ensures c.get.ensures
