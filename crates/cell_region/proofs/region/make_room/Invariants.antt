use Rattle.std.proofs.Common.{◌≡◌, ℕ, ◌*◌, ◌≤◌, length, take}
use Rattle.cell_region.specs.Chunks.{AreLong, joined, chunk_size}
use Rattle.cell_region.proofs.region.make_room.Given as goal

abbrev pub invariant-loop : goal.invariant-loop
invariant-loop g l = record {
  long : AreLong l.chunks.items;
  kept : (n : ℕ) → n ≤ chunk_size * length l.initial.chunks.items → take n (joined l.chunks.items) ≡ take n (joined l.initial.chunks.items);
  more : length l.initial.chunks.items ≤ length l.chunks.items;
  count : l.counter ≡ length l.chunks.items;
}
