use Rattle.electrictest.specs.Words.{threaded}
use Rattle.electrictest.proofs.{AskedFor.threaded_impact, AskedFor.threaded_over, CompleteLaws.complete_answer, OwnAnswers.own_answer, OwnOrderLaws.own_order_answer}
use Rattle.electrictest.proofs.{DetectedLaws.detected_answer, DetectedLaws.detected_order_answer, EagerLaws.eager_answer, EarlierLaws.earlier_answer}
use Rattle.electrictest.proofs.{GeneratedAnswers.generated_by, OwnConeLaws.own_cones_answer, OwnConeLaws.own_manifest_answer}
use Rattle.electrictest.proofs.Replying.{served_by, taken_by, ends_by}
use Rattle.electrictest.proofs.threaded.electric.Goals as goal

pub returns-clause-served : goal.returns-clause-served
returns-clause-served g c = served_by c.threaded-ask.result _ _ _ c.answered.result _ _ c.threaded-ask.ensures _ _ c.asked_text-report.result c.asked_text-report.ensures.answers c.answered.ensures.reports c.answered.ensures.refuses

pub returns-clause-own : goal.returns-clause-own
returns-clause-own g c = λ files may. own_answer _ _ _ _ (returns-clause-served g c files may)

pub returns-clause-own_order : goal.returns-clause-own_order
returns-clause-own_order g c = λ files may. own_order_answer _ _ _ _ (returns-clause-served g c files may)

pub returns-clause-detected : goal.returns-clause-detected
returns-clause-detected g c = λ files may. detected_answer _ _ _ _ (returns-clause-served g c files may)

pub returns-clause-detected_order : goal.returns-clause-detected_order
returns-clause-detected_order g c = λ files may. detected_order_answer _ _ _ _ (returns-clause-served g c files may)

pub returns-clause-own_cones : goal.returns-clause-own_cones
returns-clause-own_cones g c = λ files may. own_cones_answer _ _ _ _ (returns-clause-served g c files may)

pub returns-clause-own_manifest : goal.returns-clause-own_manifest
returns-clause-own_manifest g c = λ files may. own_manifest_answer _ _ _ _ (returns-clause-served g c files may)

pub returns-clause-earlier : goal.returns-clause-earlier
returns-clause-earlier g c = λ files may. earlier_answer _ _ _ _ (threaded_impact c.args.words.now) (returns-clause-served g c files may)

pub returns-clause-complete : goal.returns-clause-complete
returns-clause-complete g c = λ files may. complete_answer _ _ _ _ (returns-clause-served g c files may)

pub returns-clause-eager : goal.returns-clause-eager
returns-clause-eager g c = λ files may. eager_answer files (threaded c.args.words.now) (threaded_over c.args.words.now)

pub returns-clause-taken : goal.returns-clause-taken
returns-clause-taken g c = taken_by c.threaded-ask.result _ _ _ c.answered.result _ _ c.threaded-ask.ensures _ _ c.asked_text-report.result c.asked_text-report.ensures.answers c.answered.ensures.reports c.answered.ensures.refuses

pub returns-clause-ends : goal.returns-clause-ends
returns-clause-ends g c = ends_by c.threaded-ask.result _ _ _ c.answered.result _ _ c.threaded-ask.ensures _ _ c.asked_text-report.result c.asked_text-report.ensures.answers c.answered.ensures.reports c.answered.ensures.refuses

pub returns-clause-generated : goal.returns-clause-generated
returns-clause-generated g c =
    generated_by c.threaded-ask.result _ _ _ c.answered.result _ _ c.threaded-ask.ensures
    c.args.steps.now c.asked_text-report.new.steps c.asked_text-report.result c.asked_text-report.ensures.generated c.answered.ensures.reports c.answered.ensures.refuses
