use Rattle.std.proofs.Common.{◌-◌, ◌∷◌, [], get_or, codes, decimal}
use Rattle.test_run.proofs.Joins.{join5}
use Rattle.test_run.proofs.lines.push_named.Goals as goal

pub returns : goal.returns
returns c =
    join5 c.args.out.now (codes "test ") (decimal c.args.test) (32 ∷ []) (get_or c.args.names.now.tests (c.args.test - 1) []) (32 ∷ [])
    c.in_ok-extend_from_slice.ensures.pushed c.in_ok-push_decimal.ensures c.in_ok-push.ensures.pushed c.in_ok-push_test_name.ensures c.in_ok-push-2.ensures.pushed
