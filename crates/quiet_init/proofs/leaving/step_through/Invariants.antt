use Rattle.std.proofs.Common.{◌≡◌, drop}
use Rattle.quiet_init.specs.{Leaving.CanDoAll, Quiet.left_after}
use Rattle.quiet_init.proofs.leaving.step_through.Given as goal

-- what is left can be done, and leaves what the whole does
abbrev pub invariant-loop-placed : goal.invariant-loop-placed
invariant-loop-placed l = record {
  can : CanDoAll l.tables (drop l.placed-index l.code) l.stack l.memory;
  left : left_after l.tables (drop l.placed-index l.code) l.stack l.memory ≡ left_after l.tables l.code l.fn.stack l.fn.memory;
  below : l.stack.below ≡ l.fn.stack.below;
}
