use Rattle.std.proofs.Common.{◌≡◌, ◌++◌, ◌∷◌, codes, decimal}
use Rattle.std.proofs.lemmas.Result.{on_ok_weaker}
use Rattle.test_run.proofs.Joins.{join5}
use Rattle.test_run.proofs.tallies.push_head.Goals as goal

pub returns : goal.returns
returns c =
    on_ok_weaker c.push_decimal-2.result (λ (h : c.push_decimal-2.new.out ≡ c.extend_from_slice-3.new.self ++ decimal c.args.ran).
    join5 c.args.out.now c.args.title.now (10 ∷ codes "selected ") (decimal c.args.selected) c.args.word.now (decimal c.args.ran)
    c.in_ok-extend_from_slice.ensures.pushed c.in_ok-extend_from_slice-2.ensures.pushed c.in_ok-push_decimal.ensures c.in_ok-extend_from_slice-3.ensures.pushed h) c.push_decimal-2.ensures
