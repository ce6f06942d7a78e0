use Rattle.std.proofs.Common.{◌≡◌}
use Rattle.jvm_model.specs.Entries.{no_entries}
use Rattle.quiet_init.specs.Leaving.{AreLeft}
use Rattle.quiet_init.proofs.leaving.leave_all.Given as goal

abbrev pub invariant-loop-class : goal.invariant-loop-class
invariant-loop-class l = record {
  left : AreLeft l.p l.class l.memory;
  empty : l.stack ≡ no_entries;
}
