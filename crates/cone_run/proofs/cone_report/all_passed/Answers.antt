use Rattle.std.proofs.Common.{◌∙◌, sym, ap, Bool, ◌&&◌}
use Rattle.cone_run.proofs.{TallyLaws.passed_more, cone_report.all_passed.Goals.then-all, cone_report.all_passed.Goals.else-all}
use Rattle.cone_run.proofs.cone_report.all_passed.Goals as goal

pub loop-index-preserved : goal.loop-index-preserved
loop-index-preserved c =
    let more = passed_more c.args.pieces.now c.loop-index.index c.index-pieces-index.result c.outcome.result.now c.loop-index.all c.is_passed-passed.result c.loop-index-test.true c.index-pieces-index.is c.outcome.ensures.gives c.loop-index.invariant c.is_passed-passed.ensures in
    elim c.if-all.branch [
      | then-all w ↦ w.all-is ∙ (ap (λ (z : Bool). z && c.is_passed-passed.result) (sym w.if-all.true) ∙ more)
      | else-all w ↦ w.all-is ∙ (w.if-all.false ∙ (ap (λ (z : Bool). z && c.is_passed-passed.result) (sym w.if-all.false) ∙ more))
    ]
