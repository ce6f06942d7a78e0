use Rattle.std.proofs.Common.{◌≡◌, false}
use Rattle.worker_pool.proofs.chain_jobs.run_chain.Given as goal

abbrev pub invariant-loop-index : goal.invariant-loop-index
invariant-loop-index g l = (l.machine.program ≡ l.initial.machine.program) × (l.machine.worker ≡ l.initial.machine.worker) × (l.machine.spent ≡ false)
