use Rattle.std.proofs.Common.{◌≤◌, length}
use Rattle.cone_run.proofs.cone_pool.share_of.Given as goal

abbrev pub invariant-loop-number : goal.invariant-loop-number
invariant-loop-number l = length l.share ≤ l.number
