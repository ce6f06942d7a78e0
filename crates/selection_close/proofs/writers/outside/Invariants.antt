-- The set has the raw writers so far.
use Rattle.std.proofs.Common.{◌≡◌, ℕ, true, take}
use Rattle.order_law.specs.Conflicts.{Member}
use Rattle.dep_graph.specs.Sets.{holds}
use Rattle.selection_close.proofs.writers.outside.Given as goal

abbrev pub invariant-loop-i : goal.invariant-loop-i
invariant-loop-i l = (v : ℕ) → Member v (take l.i l.writers) → holds l.members v ≡ true
