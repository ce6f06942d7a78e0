use Rattle.std.proofs.Common.{◌≡◌, ◌++◌, ◌∷◌, []}
use Rattle.std.proofs.lemmas.Result.{on_ok_weaker}
use Rattle.cone_run.proofs.TallyLaws.{line_of}
use Rattle.cone_run.proofs.cone_report.push_begin.Goals as goal

pub returns : goal.returns
returns c =
    on_ok_weaker c.push.result (λ (h : c.push.new.self ≡ c.push_head.new.out ++ (10 ∷ [])). line_of c.args.out.now c.args.selected c.args.run c.in_ok-push_head.ensures h) c.push.ensures.pushed
