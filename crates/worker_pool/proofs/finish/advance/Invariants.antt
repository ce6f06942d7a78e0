use Rattle.std.proofs.Common.{◌≡◌, ◌<◌, ◌≤◌, ℕ}
use Rattle.run_core.specs.{Refusal.HasNone, Run.history}
use Rattle.worker_pool.proofs.finish.advance.Given as goal

abbrev pub invariant-loop-before : goal.invariant-loop-before
invariant-loop-before g l = (l.core ≡ l.initial.core) × ((w : ℕ) → 0 < w → w ≤ l.before → HasNone l.initial.core.chains (history l.initial.core) w)
