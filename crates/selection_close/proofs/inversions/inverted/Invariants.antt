-- The tests so far keep to the order.
use Rattle.std.proofs.Common.{ℕ, ◌<◌, take}
use Rattle.order_law.specs.{Conflicts.InOrder, OrderFault.IsInPlace}
use Rattle.selection_close.proofs.inversions.inverted.Given as goal

abbrev pub invariant-loop-i : goal.invariant-loop-i
invariant-loop-i l = record {
  in_place : (k : ℕ) → k < l.i → IsInPlace l.g l.list k;
  in_order : InOrder l.g (take l.i l.list);
}
