use Rattle.std.proofs.Common.{◌≡◌, ◌<◌, ◌^◌, All, length}
use Rattle.cone_run.proofs.cone_pool.deal.Given as goal

abbrev pub invariant-loop-worker : goal.invariant-loop-worker
invariant-loop-worker l = record {
  many : length l.shares ≡ l.worker;
  short : All (λ s. length s < 2 ^ 32) l.shares;
}
