-- The tests so far that are picked, and whether one of them is hit.
use Rattle.std.proofs.Common.{◌≡◌, filter}
use Rattle.std.specs.List.{list_any, range_with_len}
use Rattle.impact_pick.specs.Pick as pick
use Rattle.impact_pick.proofs.picking.picked.Given as goal

abbrev pub invariant-loop-i : goal.invariant-loop-i
invariant-loop-i l = (l.tests ≡ filter (pick.is_picked l.m l.p l.prints) (range_with_len 1 l.i)) × (l.after ≡ list_any (pick.is_hit l.m l.prints) (range_with_len 1 l.i))
