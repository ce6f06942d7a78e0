use Rattle.electrictest.proofs.OrderLists.{order_reported_as}
use Rattle.electrictest.proofs.reports.order_report.Goals as goal

pub returns-clause-text : goal.returns-clause-text
returns-clause-text c =
    order_reported_as c.args.names.now c.args.tests.now c.args.outcomes.now c.requires.each c.requires.tests c.in_ok-text.text c.push_in_order.new.out c.of-counts.result
    (rw c.as_slice.ensures at c.in_ok-text.ensures) (rw c.new-lines.ensures at c.in_ok-push_in_order.ensures) c.of-counts.ensures
