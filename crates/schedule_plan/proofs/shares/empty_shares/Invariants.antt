-- So many shares so far.
use Rattle.std.proofs.Common.{◌≡◌, replicate}
use Rattle.schedule_plan.specs.Plans.{no_share}
use Rattle.schedule_plan.proofs.shares.empty_shares.Given as goal

abbrev pub invariant-loop : goal.invariant-loop
invariant-loop l = l.shares.items ≡ replicate l.counter no_share
