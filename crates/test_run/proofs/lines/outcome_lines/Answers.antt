use Rattle.std.proofs.Common.{[], ◌++◌, ap, ◌∙◌}
use Rattle.jvm_model.specs.Texts.{outcome_lines, out_line, test_line}
use Rattle.test_run.proofs.Joins.{join2}
use Rattle.test_run.proofs.lines.outcome_lines.Goals as goal

pub returns : goal.returns
unfolding outcome_lines
returns c =
    let line = test_line c.args.names.now c.args.test c.args.outcome.now in
    join2 [] line (out_line c.args.outcome.now.output)
    (c.in_ok-push_line.ensures ∙ ap (λ z. z ++ line) c.new-out.ensures)
    c.in_ok-push_out.ensures
