use Rattle.std.proofs.Common.{◌≡◌, ℕ, ◌<◌, length, get_or}
use Rattle.jvm_model.specs.Classes.{layout}
use Rattle.vm_tables.proofs.tables.all_cells.Given as goal

abbrev pub invariant-loop-class : goal.invariant-loop-class
invariant-loop-class l = record {
  many : length l.cells ≡ l.class;
  laid : (c : ℕ) → c < l.class → get_or l.cells c 0 ≡ length (layout l.p c);
}
