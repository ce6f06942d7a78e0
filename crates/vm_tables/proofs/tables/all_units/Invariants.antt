use Rattle.std.proofs.Common.{◌≡◌, ℕ, ◌<◌, get_or, length}
use Rattle.vm_tables.specs.FieldUnits.{field_unit}
use Rattle.vm_tables.proofs.tables.all_units.Given as goal

abbrev pub invariant-loop-field : goal.invariant-loop-field
invariant-loop-field l = record {
  many : length l.units ≡ l.field-index;
  read : (f : ℕ) → f < l.field-index → get_or l.units f 0 ≡ field_unit l.p f;
}
