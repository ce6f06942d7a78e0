use Rattle.std.proofs.Common.{length}
use Rattle.worker_pool.proofs.pool.work_plan.Given as goal

abbrev pub ghosts-run_workers-N-PoolName : goal.ghosts-run_workers-N-PoolName
ghosts-run_workers-N-PoolName g a = record { program = a.p.now; workers = length a.shares.now }

abbrev pub ghosts-run_workers-N-RunName : goal.ghosts-run_workers-N-RunName
ghosts-run_workers-N-RunName g a = record { chains = a.c.now.lists }
