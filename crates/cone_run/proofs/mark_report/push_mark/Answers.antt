use Rattle.std.proofs.Common.{◌≡◌, ◌++◌, ◌∷◌, [], codes}
use Rattle.std.proofs.lemmas.Result.{on_ok_weaker}
use Rattle.dep_record.specs.DepsText.{test_name}
use Rattle.test_run.proofs.Joins.{join3, join5}
use Rattle.cone_run.specs.ManifestText.{effect_word}
use Rattle.cone_run.proofs.mark_report.push_mark.Goals as goal

pub returns : goal.returns
returns c =
    let names = c.args.names.now in
    let m = c.args.mark.now in
    on_ok_weaker c.push-2.result (λ (h : c.push-2.new.self ≡ c.push_effect.new.out ++ (10 ∷ [])).
    join5 c.args.out.now (codes "raw ") (test_name names m.writer) (codes " -> ") (test_name names m.test) (32 ∷ (effect_word m.effect ++ (10 ∷ [])))
    c.in_ok-extend_from_slice.ensures.pushed c.in_ok-push_name.ensures c.in_ok-extend_from_slice-2.ensures.pushed c.in_ok-push_name-2.ensures
    (join3 _ (32 ∷ []) (effect_word m.effect) (10 ∷ []) c.in_ok-push.ensures.pushed c.in_ok-push_effect.ensures h)) c.push-2.ensures.pushed
