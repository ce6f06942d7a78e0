-- The class files so far that have changed.
use Rattle.std.proofs.Common.{◌≡◌, filter}
use Rattle.std.specs.List.{range_with_len}
use Rattle.impact_pick.specs.Pick as pick
use Rattle.impact_pick.proofs.picking.changed_since.Given as goal

abbrev pub invariant-loop-i : goal.invariant-loop-i
invariant-loop-i l = l.files ≡ filter (pick.is_changed l.m l.prints) (range_with_len 1 l.i)
