-- What an answer unfolds to compute a whole run of a small suite, and its record.
use Rattle.std.specs.Prelude.{⊤}
use Rattle.jvm_model.proofs.OnLiterals.{machine_on_literals}
use Rattle.et_base.specs.Quotes.{name_unit, quoted_unit}
use Rattle.jvm_model.specs.{Suite.seq, Suite.last_outcome, Suite.is_detected, Texts.location_text}
use Rattle.order_law.specs.{Reach.is_settled_in, OwnRecord.edges_in, OwnRecord.edges_between_in, OwnRecord.conflict_places_in, OwnRecord.owner_in}

unfoldable pub records_on_literals : ⊤
unfolding machine_on_literals edges_in edges_between_in conflict_places_in owner_in location_text name_unit quoted_unit is_settled_in seq last_outcome is_detected
records_on_literals = tt
