-- The next test is before none that stands earlier.
use Rattle.std.proofs.Common.{arith}
use Rattle.selection_close.proofs.Orders.{in_place_next, in_order_next}
use Rattle.selection_close.proofs.inversions.inverted.Goals as goal

pub loop-i-preserved : goal.loop-i-preserved
loop-i-preserved c = record {
  in_place = in_place_next c.args.g.now c.args.list.now c.loop-i.i c.loop-i.invariant.in_place c.in_default.ensures;
  in_order = in_order_next c.args.g.now c.args.list.now c.loop-i.i (omega arith) c.loop-i.invariant.in_order c.in_default.ensures;
}
