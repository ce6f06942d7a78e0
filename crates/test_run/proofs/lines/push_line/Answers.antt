use Rattle.std.proofs.Common.{◌-◌, ◌∷◌, [], ◌++◌, ap, ◌∙◌, get_or, codes, decimal}
use Rattle.jvm_model.specs.Texts.{verdict_text}
use Rattle.test_run.proofs.Joins.{join3, named_then}
use Rattle.test_run.proofs.lines.push_line.Goals as goal

pub returns : goal.returns
returns c =
    let name = get_or c.args.names.now.tests (c.args.test - 1) [] in
    let verdict = verdict_text c.args.names.now c.args.outcome.now.verdict in
    let units = codes " units " ++ (decimal c.args.outcome.now.units ++ (10 ∷ [])) in
    join3 c.args.out.now (codes "test " ++ (decimal c.args.test ++ (32 ∷ (name ++ (32 ∷ []))))) verdict units
    c.in_ok-push_named.ensures c.in_ok-push_verdict.ensures c.in_ok-push_units.ensures
    ∙ ap (λ z. c.args.out.now ++ z) (named_then (codes "test ") (decimal c.args.test) name (verdict ++ units))
