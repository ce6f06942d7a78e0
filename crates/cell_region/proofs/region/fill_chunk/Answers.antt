use Rattle.std.proofs.Common.{◌<◌, ◌/◌, length, arith, ap, ◌∙◌}
use Rattle.cell_region.specs.Chunks.{chunk_size}
use Rattle.cell_region.proofs.Places.{filled_in, long_at}
use Rattle.cell_region.proofs.region.fill_chunk.Goals as goal

pub fill-requires-clause-within : goal.fill-requires-clause-within
fill-requires-clause-within g c =
    let q : c.args.start / chunk_size < length c.args.chunks.now.items = omega arith in
    let l = ap length c.index_mut-chunk.ensures.value ∙ long_at c.args.chunks.now.items (c.args.start / chunk_size) c.index_mut-chunk.result.now c.requires.long q in
    omega (arith, c.min-count.ensures)

pub returns-clause-long : goal.returns-clause-long
returns-clause-long g c =
    (filled_in c.args.chunks.now.items c.args.start c.min-count.result c.index_mut-chunk.result.now c.fill.new.self c.args.fill c.requires.long (omega arith) (omega (arith, c.min-count.ensures)) c.index_mut-chunk.ensures.value c.fill.ensures).0

pub returns-clause-filled : goal.returns-clause-filled
returns-clause-filled g c =
    (filled_in c.args.chunks.now.items c.args.start c.min-count.result c.index_mut-chunk.result.now c.fill.new.self c.args.fill c.requires.long (omega arith) (omega (arith, c.min-count.ensures)) c.index_mut-chunk.ensures.value c.fill.ensures).1
