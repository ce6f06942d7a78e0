use Rattle.std.proofs.Common.{◌≡◌, ◌<◌, ℕ}
use Rattle.order_law.specs.{Conflicts.Member, Plan.claims}
use Rattle.run_core.specs.Run.{history}
use Rattle.worker_pool.proofs.finish.claim_next.Given as goal

abbrev pub invariant-loop-place : goal.invariant-loop-place
invariant-loop-place l = (l.core ≡ l.initial.core) × ((i : ℕ) → i < l.place → (v : ℕ) × Member i (claims (history l.initial.core) v))
