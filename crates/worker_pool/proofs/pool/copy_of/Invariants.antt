use Rattle.std.proofs.Common.{◌≡◌, take}
use Rattle.worker_pool.proofs.pool.copy_of.Given as goal

abbrev pub invariant-loop-tests : goal.invariant-loop-tests
invariant-loop-tests l = l.lists ≡ take l.tests-index l.chains
