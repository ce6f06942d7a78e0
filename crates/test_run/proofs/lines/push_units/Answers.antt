use Rattle.std.proofs.Common.{◌∷◌, [], codes, decimal}
use Rattle.test_run.proofs.Joins.{join3}
use Rattle.test_run.proofs.lines.push_units.Goals as goal

pub returns : goal.returns
returns c =
    join3 c.args.out.now (codes " units ") (decimal c.args.units) (10 ∷ [])
    c.in_ok-extend_from_slice.ensures.pushed c.in_ok-push_decimal.ensures c.in_ok-push.ensures.pushed
