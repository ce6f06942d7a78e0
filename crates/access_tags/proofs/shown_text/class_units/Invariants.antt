use Rattle.std.proofs.Common.{◌≡◌, ℕ, ◌<◌, get_or, true}
use Rattle.jvm_model.specs.Classes.{no_class}
use Rattle.order_law.specs.OwnForm.{are_code_units}
use Rattle.access_tags.proofs.shown_text.class_units.Given as goal

abbrev pub invariant-loop-class : goal.invariant-loop-class
invariant-loop-class l = (c : ℕ) → c < l.class-index → are_code_units (get_or l.classes c no_class).name ≡ true
