use Rattle.std.proofs.Common.{ℕ, List, length, sym, ap, ◌∙◌, arith}
use Rattle.std.proofs.lemmas.Result.{err_from_is_err_and}
use Rattle.jvm_model.specs.declared.outcome.Outcome.{Outcome}
use Rattle.electrictest.specs.Records.{beginning}
use Rattle.electrictest.proofs.OrderRuns.{are_named, few_ran, order_reported, order_over}
use Rattle.electrictest.proofs.orders.order_of.Goals as goal

pub order_report-requires-clause-few : goal.order_report-requires-clause-few
order_report-requires-clause-few g c = let same = c.requires.suite.names in let few = c.requires.suite.few in omega arith

pub order_report-requires-clause-counted : goal.order_report-requires-clause-counted
order_report-requires-clause-counted g c =
    let few = few_ran c.args.loaded.now (beginning c.args.begun.now) c.in_ok-judged.ensures.lawful c.in_ok-outcomes.outcomes c.args.steps.now c.run_tests.new.steps c.requires.suite c.requires.tests (rw c.as_slice.ensures at c.in_ok-outcomes.ensures.ran) in
    let same = ap (λ (os : List Outcome). length os) c.as_slice-3.ensures in
    omega arith

pub order_report-requires-clause-each : goal.order_report-requires-clause-each
order_report-requires-clause-each g c =
    let ran = rw c.as_slice.ensures at c.in_ok-outcomes.ensures.ran in
    ap (λ (os : List Outcome). length os) c.as_slice-3.ensures ∙ ran.each ∙ ap (λ (ts : List ℕ). length ts) (sym c.as_slice-2.ensures)

pub order_report-requires-clause-tests : goal.order_report-requires-clause-tests
order_report-requires-clause-tests g c = λ t m. are_named c.args.loaded.now c.args.begun.now.tests c.requires.suite c.requires.tests t (rw c.as_slice-2.ensures at m)

pub returns-in_err-outcomes-clause-refused : goal.returns-in_err-outcomes-clause-refused
returns-in_err-outcomes-clause-refused g c =
    let p = err_from_is_err_and c.from_residual-in_err-outcomes.result c.from_residual-in_err-outcomes.ensures.1 in
    rw (p.1, p.2) (order_over c.args.loaded.now (beginning c.args.begun.now) c.in_ok-judged.ensures.lawful c.in_err-outcomes.field-0.0 (rw c.as_slice.ensures at c.in_err-outcomes.ensures.refused))

pub returns-clause-reports : goal.returns-clause-reports
returns-clause-reports g c =
    order_reported c.args.loaded.now (beginning c.args.begun.now) c.in_ok-judged.ensures.lawful c.in_ok-outcomes.outcomes c.in_ok-report.report.passed c.in_ok-report.report.text c.args.steps.now c.run_tests.new.steps
    (rw c.as_slice.ensures at c.in_ok-outcomes.ensures.ran) (rw (c.as_slice-2.ensures, c.as_slice-3.ensures) at c.in_ok-report.ensures.text) (rw c.as_slice-3.ensures at c.in_ok-report.ensures.passed)
