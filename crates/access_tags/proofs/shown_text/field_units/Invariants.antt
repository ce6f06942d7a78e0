use Rattle.std.proofs.Common.{◌≡◌, ℕ, ◌<◌, get_or, true}
use Rattle.jvm_model.specs.Classes.{no_field}
use Rattle.order_law.specs.OwnForm.{are_code_units}
use Rattle.access_tags.proofs.shown_text.field_units.Given as goal

abbrev pub invariant-loop-field : goal.invariant-loop-field
invariant-loop-field l = (f : ℕ) → f < l.field-index → are_code_units (get_or l.fields f no_field).name ≡ true
