use Rattle.std.proofs.Common.{◌≡◌, ℕ, ◌<◌, get_or, length, true}
use Rattle.jvm_model.specs.Classes.{layout, member}
use Rattle.vm_tables.specs.FieldPlaces.{place}
use Rattle.vm_tables.proofs.field_places.FieldPlaces.of.Given as goal

abbrev pub invariant-loop-class : goal.invariant-loop-class
invariant-loop-class l = record {
  many : length l.places.items ≡ length l.p.fields;
  placed : (c : ℕ) → c < l.class → (f : ℕ) → member f (layout l.p c) ≡ true → get_or l.places.items f 0 ≡ place f (layout l.p c);
}
