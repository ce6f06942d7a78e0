-- The test doesn't stand at the places so far.
use Rattle.std.proofs.Common.{take}
use Rattle.order_law.specs.Conflicts.{Member}
use Rattle.selection_close.proofs.repeats.stands_before.Given as goal

abbrev pub invariant-loop-q : goal.invariant-loop-q
invariant-loop-q l = Member l.test (take l.q l.list) → ⊥
