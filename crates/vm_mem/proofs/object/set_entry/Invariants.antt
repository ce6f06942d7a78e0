use Rattle.std.proofs.Common.{◌≡◌}
use Rattle.vm_mem.proofs.Entries.{Passed}
use Rattle.vm_mem.proofs.object.set_entry.Given as goal

abbrev pub invariant-loop-i : goal.invariant-loop-i
invariant-loop-i l = record {
  same : l.entries.items ≡ l.initial.entries.items;
  passed : Passed l.entries.items l.i l.number l.v;
}
