use Rattle.std.proofs.Common.{ℕ, List, sym, ap, ◌∙◌}
use Rattle.std.specs.{List.list_any, Str.bytes_eq}
use Rattle.suite_load.specs.{declared.suite_text.TestLine.TestLine, SuiteForm.test_from, SuiteForm.test_names}
use Rattle.suite_load.proofs.line_forms.test_of.Goals as goal

pub returns-clause-new : goal.returns-clause-new
unfolding test_from
returns-clause-new c =
    ap (λ (t : TestLine). list_any (bytes_eq t.name) (test_names c.args.before.now)) c.in_ok-next_test.ensures
    ∙ ap (λ (names : List (List ℕ)). list_any (bytes_eq c.args.name.now) names) (sym c.tests.ensures) ∙ c.in_ok-fresh.ensures.new
