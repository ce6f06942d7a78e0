-- The numbers so far.
use Rattle.std.proofs.Common.{◌≡◌, ℕ, ◌<◌, length}
use Rattle.schedule_plan.specs.Grouping.{at}
use Rattle.schedule_plan.proofs.labels.places.Given as goal

abbrev pub invariant-loop-i : goal.invariant-loop-i
invariant-loop-i l = record {
  many : length l.labels.items ≡ l.i;
  own : (k : ℕ) → k < l.i → at l.labels.items k ≡ k;
}
