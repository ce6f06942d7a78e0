use Rattle.std.proofs.Common.{◌≡◌, ℕ, ◌<◌, length, get_or, []}
use Rattle.jvm_model.specs.Classes.{method_at}
use Rattle.vm_tables.specs.Numbers.{ArePlaces, AreNexts}
use Rattle.vm_tables.proofs.tables.all_places.Given as goal

abbrev pub invariant-loop-method : goal.invariant-loop-method
invariant-loop-method l = record {
  many : length l.numbers ≡ l.method-index;
  as_many : length l.nexts ≡ l.method-index;
  placed : (m : ℕ) → m < l.method-index → ArePlaces (method_at l.p m).body (get_or l.numbers m []);
  after : (m : ℕ) → m < l.method-index → AreNexts (method_at l.p m).body (get_or l.nexts m []);
}
