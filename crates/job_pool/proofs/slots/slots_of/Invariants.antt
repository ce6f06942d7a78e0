use Rattle.std.proofs.Common.{◌≡◌, vec_len}
use Rattle.job_pool.proofs.slots.slots_of.Given as goal

abbrev pub invariant-loop-index : goal.invariant-loop-index
invariant-loop-index g l = vec_len l.slots ≡ l.index
