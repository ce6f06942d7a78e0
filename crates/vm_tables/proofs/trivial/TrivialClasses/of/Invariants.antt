use Rattle.std.proofs.Common.{◌≡◌, ℕ, ◌<◌, true, get_or, length}
use Rattle.jvm_model.specs.Classes.{is_trivial}
use Rattle.vm_tables.proofs.trivial.TrivialClasses.of.Given as goal

abbrev pub invariant-loop-class : goal.invariant-loop-class
invariant-loop-class l = record {
  many : length l.table ≡ l.class;
  listed : (c : ℕ) → c < l.class → get_or l.table c true ≡ is_trivial l.p c;
}
