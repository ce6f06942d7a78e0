use Rattle.std.proofs.Common.{◌++◌, ◌∷◌, [], ap, ◌∙◌, codes, decimal}
use Rattle.test_run.proofs.Joins.{join2, join4}
use Rattle.electrictest.proofs.texts.push_over.Goals as goal

pub returns-in_ok-push_decimal-in-OverBudget : goal.returns-in_ok-push_decimal-in-OverBudget
returns-in_ok-push_decimal-in-OverBudget c = rw c.in-OverBudget.is
    (join4 c.args.out.now (codes "over-budget ") c.in-OverBudget.name (32 ∷ []) (decimal c.in-OverBudget.budget)
    c.in_ok-extend_from_slice-in-OverBudget.ensures.pushed
    (c.in_ok-extend_from_slice-in-OverBudget-2.ensures.pushed ∙ ap (λ z. c.extend_from_slice.new.self ++ z) c.as_slice.ensures)
    c.in_ok-push-in-OverBudget.ensures.pushed c.in_ok-push_decimal-in-OverBudget.ensures)

pub returns-in_ok-extend_from_slice-in-OverSuite-2 : goal.returns-in_ok-extend_from_slice-in-OverSuite-2
returns-in_ok-extend_from_slice-in-OverSuite-2 c = rw c.in-OverSuite.is
    (join2 c.args.out.now (codes "over-suite ") c.in-OverSuite.name
    c.in_ok-extend_from_slice-in-OverSuite.ensures.pushed
    (c.in_ok-extend_from_slice-in-OverSuite-2.ensures.pushed ∙ ap (λ z. c.extend_from_slice-in-OverSuite.new.self ++ z) c.as_slice-in-OverSuite.ensures))
