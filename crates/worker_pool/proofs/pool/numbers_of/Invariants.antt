use Rattle.std.proofs.Common.{◌≡◌, take, map}
use Rattle.worker_pool.proofs.pool.numbers_of.Given as goal

abbrev pub invariant-loop-share : goal.invariant-loop-share
invariant-loop-share l = l.lists ≡ map (λ s. s.chains) (take l.share-index l.shares)
