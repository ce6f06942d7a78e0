use Rattle.std.proofs.Common.{◌∷◌, [], ◌++◌, ap, ◌∙◌, codes, decimal}
use Rattle.jvm_model.specs.Texts.{count_line}
use Rattle.test_run.proofs.Joins.{join4, three_then}
use Rattle.test_run.proofs.lines.push_counts.Goals as goal

pub returns : goal.returns
unfolding count_line
returns c =
    join4 c.args.out.now (codes "passed " ++ decimal c.args.passed) (codes " failed " ++ decimal c.args.failed) (codes " error " ++ decimal c.args.error) (10 ∷ [])
    c.in_ok-push_count.ensures c.in_ok-push_count-2.ensures c.in_ok-push_count-3.ensures c.in_ok-push.ensures.pushed
    ∙ ap (λ z. c.args.out.now ++ z) (three_then (codes "passed ") (decimal c.args.passed) (codes " failed ") (decimal c.args.failed) (codes " error ") (decimal c.args.error) (10 ∷ []))
