use Rattle.std.proofs.Common.{◌≡◌, vec_len}
use Rattle.job_pool.proofs.slots.lend.Given as goal

abbrev pub invariant-loop-to : goal.invariant-loop-to
invariant-loop-to g l = vec_len l.slots ≡ l.workers

abbrev pub invariant-loop-step : goal.invariant-loop-step
invariant-loop-step g l = vec_len l.slots ≡ l.workers
