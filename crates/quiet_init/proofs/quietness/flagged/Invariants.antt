use Rattle.std.proofs.Common.{◌≡◌, false, filter, get_or}
use Rattle.std.specs.List.{range_with_len}
use Rattle.quiet_init.proofs.quietness.flagged.Given as goal

abbrev pub invariant-loop-class : goal.invariant-loop-class
invariant-loop-class l = l.classes ≡ filter (λ c. get_or l.flags c false) (range_with_len 0 l.class)
