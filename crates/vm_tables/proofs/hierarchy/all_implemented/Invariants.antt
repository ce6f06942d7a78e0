use Rattle.std.proofs.Common.{◌≡◌, ℕ, ◌<◌, [], false, get_or, length}
use Rattle.jvm_model.specs.Classes.{implements}
use Rattle.vm_tables.proofs.hierarchy.all_implemented.Given as goal

abbrev pub invariant-loop-class : goal.invariant-loop-class
invariant-loop-class l = record {
  many : length l.table ≡ l.class;
  listed : (c : ℕ) → c < l.class → (i : ℕ) → get_or (get_or l.table c []) i false ≡ implements l.p c i;
}
