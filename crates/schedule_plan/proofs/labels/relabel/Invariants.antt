-- The labels before this place are written over, and the others as before.
use Rattle.std.proofs.Common.{◌≡◌, ℕ, ◌<◌, ◌≤◌, cond, nat_eq, length}
use Rattle.schedule_plan.specs.Grouping.{at}
use Rattle.schedule_plan.proofs.labels.relabel.Given as goal

abbrev pub invariant-loop-i : goal.invariant-loop-i
invariant-loop-i l = record {
  many : length l.labels ≡ length l.fn.labels;
  done : (k : ℕ) → k < l.i → at l.labels k ≡ cond (nat_eq (at l.fn.labels k) l.old) l.new (at l.fn.labels k);
  rest : (k : ℕ) → l.i ≤ k → at l.labels k ≡ at l.fn.labels k;
}
