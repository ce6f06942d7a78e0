-- The tests so far have their raw writers in the list.
use Rattle.std.proofs.Common.{ℕ, take}
use Rattle.order_law.specs.{Conflicts.Member, OrderFault.HasWriters}
use Rattle.selection_close.proofs.writers.unlisted.Given as goal

abbrev pub invariant-loop-i : goal.invariant-loop-i
invariant-loop-i l = (t : ℕ) → Member t (take l.i l.list) → HasWriters l.g l.list t
