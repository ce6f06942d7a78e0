use Rattle.order_law.proofs.{OwnForm.units_law, OwnForm.ordered_law, OwnForm.counted_law, OwnForm.reach_law, PlaceTexts.place_law}
use Rattle.order_law.proofs.own_form_law.Goals as goal

pub returns-clause-units : goal.returns-clause-units
returns-clause-units c = units_law

pub returns-clause-ordered : goal.returns-clause-ordered
returns-clause-ordered c = ordered_law

pub returns-clause-counted : goal.returns-clause-counted
returns-clause-counted c = counted_law

pub returns-clause-reach : goal.returns-clause-reach
returns-clause-reach c = reach_law

pub returns-clause-place : goal.returns-clause-place
returns-clause-place c = place_law
