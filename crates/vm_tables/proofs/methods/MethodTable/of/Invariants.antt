use Rattle.std.proofs.Common.{◌≡◌, ℕ, ◌<◌, get_or, length}
use Rattle.vm_tables.specs.Methods.{facts_of, no_facts}
use Rattle.vm_tables.proofs.methods.MethodTable.of.Given as goal

abbrev pub invariant-loop-method : goal.invariant-loop-method
invariant-loop-method l = record {
  many : length l.table ≡ l.method-index;
  made : (m : ℕ) → m < l.method-index → get_or l.table m no_facts ≡ facts_of l.p m;
}
