-- The tests so far are added.
use Rattle.std.proofs.Common.{◌≡◌, ◌⊎◌, ◌↔◌, ℕ, ◌<◌, true, take}
use Rattle.order_law.specs.Conflicts.{Member}
use Rattle.dep_graph.specs.Sets.{holds}
use Rattle.selection_close.proofs.closing.add_all.Given as goal

abbrev pub invariant-loop-i : goal.invariant-loop-i
invariant-loop-i l = (u : ℕ) → u < 1088 → (holds l.set u ≡ true) ↔ ((holds l.fn.set u ≡ true) ⊎ Member u (take l.i l.tests))
