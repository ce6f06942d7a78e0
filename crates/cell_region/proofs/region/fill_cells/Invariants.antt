use Rattle.std.proofs.Common.{◌≡◌, ◌≤◌, ◌-◌, length}
use Rattle.cell_region.specs.Chunks.{AreLong, IsFilled, joined}
use Rattle.cell_region.proofs.region.fill_cells.Given as goal

abbrev pub invariant-loop-at : goal.invariant-loop-at
invariant-loop-at g l = record {
  long : AreLong l.chunks.items;
  len : length l.chunks.items ≡ length l.initial.chunks.items;
  from : l.start ≤ l.at;
  to : l.at ≤ l.end;
  filled : IsFilled (joined l.initial.chunks.items) (joined l.chunks.items) l.start l.at l.fill;
}

-- proposed from the loop's first test
abbrev pub decreases-loop-at : goal.decreases-loop-at
decreases-loop-at g l = l.end - l.at
