use Rattle.std.proofs.Common.{◌<◌, ◌/◌, length, arith, ap, ◌∙◌}
use Rattle.cell_region.specs.Chunks.{chunk_size}
use Rattle.cell_region.proofs.Places.{long_at, stored}
use Rattle.cell_region.proofs.region.set_cell.Goals as goal

pub set-requires : goal.set-requires
set-requires g c =
    let q : c.args.i / chunk_size < length c.args.chunks.now.items = omega arith in
    let l = ap length c.index_mut-chunk.ensures.value ∙ long_at c.args.chunks.now.items (c.args.i / chunk_size) c.index_mut-chunk.result.now c.requires.long q in
    omega arith

pub returns-clause-long : goal.returns-clause-long
returns-clause-long g c = (stored _ _ _ _ _ c.requires.long c.requires.within c.index_mut-chunk.ensures.value c.set.ensures).0

pub returns-clause-set : goal.returns-clause-set
returns-clause-set g c = (stored _ _ _ _ _ c.requires.long c.requires.within c.index_mut-chunk.ensures.value c.set.ensures).1
