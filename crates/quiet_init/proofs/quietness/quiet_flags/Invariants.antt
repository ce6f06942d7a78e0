use Rattle.std.proofs.Common.{◌≡◌, map}
use Rattle.std.specs.List.{range_with_len}
use Rattle.quiet_init.specs.Quiet.{is_quiet}
use Rattle.quiet_init.proofs.quietness.quiet_flags.Given as goal

abbrev pub invariant-loop-class : goal.invariant-loop-class
invariant-loop-class l = l.flags ≡ map (is_quiet l.p) (range_with_len 0 l.class)
