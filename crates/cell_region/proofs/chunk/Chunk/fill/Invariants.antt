use Rattle.cell_region.specs.Chunks.{IsFilled}
use Rattle.cell_region.proofs.chunk.Chunk.fill.Given as goal

abbrev pub invariant-loop-i : goal.invariant-loop-i
invariant-loop-i g l = IsFilled l.initial.self-inside.cells.items l.self-inside.cells.items l.start l.i l.content
