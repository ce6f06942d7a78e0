use Rattle.std.proofs.Common.{length}
use Rattle.cone_run.proofs.cone_pool.cones.Given as goal

abbrev pub ghosts-run_cones-N-PoolName : goal.ghosts-run_cones-N-PoolName
ghosts-run_cones-N-PoolName g a = record { program = a.p.now; workers = length a.shares.now }

abbrev pub ghosts-run_cones-N-BookName : goal.ghosts-run_cones-N-BookName
ghosts-run_cones-N-BookName g a = record { edges = a.g.now; selected = a.sel.now }
