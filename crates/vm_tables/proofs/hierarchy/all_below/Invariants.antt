use Rattle.std.proofs.Common.{◌≡◌, ℕ, ◌<◌, [], false, get_or, length}
use Rattle.jvm_model.specs.Classes.{is_below}
use Rattle.vm_tables.proofs.hierarchy.all_below.Given as goal

abbrev pub invariant-loop-class : goal.invariant-loop-class
invariant-loop-class l = record {
  many : length l.table ≡ l.class;
  listed : (c : ℕ) → c < l.class → (d : ℕ) → get_or (get_or l.table c []) d false ≡ is_below l.p c d;
}
