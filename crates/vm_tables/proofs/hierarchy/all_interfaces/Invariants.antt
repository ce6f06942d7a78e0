use Rattle.std.proofs.Common.{◌≡◌, ℕ, ◌<◌, [], get_or, length}
use Rattle.jvm_model.specs.Selection.{all_interfaces}
use Rattle.vm_tables.proofs.hierarchy.all_interfaces.Given as goal

abbrev pub invariant-loop-class : goal.invariant-loop-class
invariant-loop-class l = record {
  many : length l.table ≡ l.class;
  listed : (c : ℕ) → c < l.class → get_or l.table c [] ≡ all_interfaces l.p c;
}
