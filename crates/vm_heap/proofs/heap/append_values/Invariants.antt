use Rattle.std.proofs.Common.{◌≡◌, ◌++◌, length, map, take}
use Rattle.vm_heap.proofs.heap.append_values.Given as goal

abbrev pub invariant-loop-v : goal.invariant-loop-v
invariant-loop-v l = record {
  cells : l.cells.items ≡ l.fn.cells.items ++ map (λ x. x.1) (take l.v-index l.fields);
  start : l.start ≡ length l.fn.cells.items;
}
