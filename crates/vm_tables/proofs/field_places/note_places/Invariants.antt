use Rattle.std.proofs.Common.{◌≡◌, ℕ, ◌+◌, ◌≤◌, cond, drop, get_or, length}
use Rattle.jvm_model.specs.Classes.{member}
use Rattle.vm_tables.specs.FieldPlaces.{place}
use Rattle.vm_tables.proofs.field_places.note_places.Given as goal

abbrev pub invariant-loop-place : goal.invariant-loop-place
invariant-loop-place l = record {
  within : l.place ≤ length l.fields;
  placed : (f : ℕ) → get_or l.places f 0 ≡ cond (member f (drop l.place l.fields)) (l.place + place f (drop l.place l.fields)) (get_or l.fn.places f 0);
}

abbrev pub decreases-loop-place : goal.decreases-loop-place
decreases-loop-place l = l.place
