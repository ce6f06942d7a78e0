use Rattle.std.proofs.Common.{◌≡◌, map}
use Rattle.std.specs.List.{range_with_len}
use Rattle.quiet_init.specs.Quiet.{is_still_start}
use Rattle.quiet_init.proofs.starts.still_starts.Given as goal

abbrev pub invariant-loop-class : goal.invariant-loop-class
invariant-loop-class l = l.starts ≡ map (is_still_start l.p) (range_with_len 0 l.class)
