-- The first fault is of the first sort that there is.
use Rattle.order_law.specs.OrderFault.{is_twice, is_missing, is_inverted}
use Rattle.selection_close.proofs.faults.check_order.Goals as goal

pub returns-in-Some : goal.returns-in-Some
returns-in-Some c = is_twice c.in-Some.ensures

pub returns-in-Some-unlisted : goal.returns-in-Some-unlisted
returns-in-Some-unlisted c = is_missing c.in_default.ensures c.in-Some-unlisted.ensures

pub returns-in-Some-inverted : goal.returns-in-Some-inverted
returns-in-Some-inverted c = is_inverted c.in_default.ensures c.in_default-unlisted.ensures c.in-Some-inverted.ensures
