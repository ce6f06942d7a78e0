use Rattle.std.proofs.Common.{arith, ◌∙◌}
use Rattle.cell_region.specs.Chunks.{joined}
use Rattle.cell_region.proofs.Places.{filled_on}
use Rattle.cell_region.proofs.region.fill_cells.Goals as goal

pub loop-at-preserved : goal.loop-at-preserved
loop-at-preserved g c = record {
  long = c.fill_chunk-at.ensures.long;
  len = c.fill_chunk-at.ensures.len ∙ c.loop-at.invariant.len;
  from = omega (arith, c.loop-at.invariant.from, c.fill_chunk-at.ensures.later);
  to = c.fill_chunk-at.ensures.order;
  filled = filled_on _ _ (joined c.fill_chunk-at.new.chunks.items) c.args.start c.loop-at.at c.fill_chunk-at.result c.args.fill c.loop-at.invariant.from (omega (arith, c.fill_chunk-at.ensures.later)) c.loop-at.invariant.filled c.fill_chunk-at.ensures.filled;
}
