use Rattle.std.proofs.Common.{◌≡◌, ◌++◌, ◌∷◌, [], codes, decimal, ap, ◌∙◌}
use Rattle.std.proofs.lemmas.Result.{on_ok_weaker}
use Rattle.jvm_model.specs.Texts.{chains_text}
use Rattle.test_run.proofs.Joins.{join4}
use Rattle.test_run.specs.Tallies.{head_of}
use Rattle.electrictest.proofs.TallyLaws.{head_then}
use Rattle.electrictest.proofs.tallies.push_run.Goals as goal

pub returns : goal.returns
returns c =
    let ends = codes " chains " ++ (chains_text c.args.chains ++ (10 ∷ [])) in
    on_ok_weaker c.push.result (λ (h : c.push.new.self ≡ c.push_chains.new.out ++ (10 ∷ [])).
    join4 c.args.out.now (head_of (codes "electric-run 1") c.args.selected (codes " executed ") c.args.executed) (codes " chains ") (chains_text c.args.chains) (10 ∷ [])
    c.in_ok-push_head.ensures c.in_ok-extend_from_slice.ensures.pushed c.in_ok-push_chains.ensures h
    ∙ ap (λ z. c.args.out.now ++ z) (head_then (codes "electric-run 1") (codes "selected ") (decimal c.args.selected) (codes " executed ") (decimal c.args.executed) ends)) c.push.ensures.pushed
