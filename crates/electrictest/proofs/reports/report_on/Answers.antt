use Rattle.electrictest.proofs.TallyLaws.{in_order_report, in_order_passed}
use Rattle.std.proofs.Common.{◌∙◌}
use Rattle.electrictest.proofs.reports.report_on.Goals as goal

pub returns-clause-text : goal.returns-clause-text
returns-clause-text c = (rw c.as_slice.ensures at c.in_ok-text.ensures) ∙ in_order_report c.args.names.now c.args.outcomes.now c.in_ok-tally.tally c.in_ok-tally.ensures

pub returns-clause-passed : goal.returns-clause-passed
returns-clause-passed c = in_order_passed c.args.names.now c.args.outcomes.now c.in_ok-tally.tally c.in_ok-tally.ensures
