use Rattle.std.proofs.Common.{◌++◌, ◌∙◌, ap, codes, decimal}
use Rattle.std.proofs.lemmas.Result.{on_ok_weaker}
use Rattle.dep_record.specs.RecordText.{numbers_text}
use Rattle.schedule_plan.specs.Plans.{units_of}
use Rattle.test_run.proofs.Joins.{join5}
use Rattle.electrictest.specs.PlanTexts.{units_end}
use Rattle.electrictest.proofs.PlanLaws.{plus_none}
use Rattle.electrictest.proofs.plan_texts.push_chain.Goals as goal

pub returns : goal.returns
returns c = on_ok_weaker c.push_units.result (λ h.
    join5 c.args.out.now (codes "chain ") (decimal c.args.number) (codes " tests ") (numbers_text c.args.tests.now) (units_end (units_of c.args.units.now c.args.tests.now))
    c.in_ok-extend_from_slice.ensures.pushed c.in_ok-push_decimal.ensures c.in_ok-extend_from_slice-2.ensures.pushed
    (c.in_ok-push_numbers.ensures ∙ ap (λ ns. c.extend_from_slice-2.new.self ++ numbers_text ns) (plus_none c.args.tests.now))
    (h ∙ ap (λ u. c.push_numbers.new.out ++ units_end u) c.chain_units.ensures)) c.push_units.ensures
