use Rattle.electrictest.specs.Words.{plain}
use Rattle.electrictest.proofs.{AskedFor.plain_impact, AskedFor.plain_over, CompleteLaws.complete_answer, DetectedLaws.detected_order_answer}
use Rattle.electrictest.proofs.{EagerLaws.eager_answer, EarlierLaws.earlier_answer, OwnConeLaws.own_manifest_answer, OwnOrderLaws.own_order_answer}
use Rattle.electrictest.proofs.Replying.{served_by, taken_by, ends_by}
use Rattle.electrictest.proofs.commands.electric_plain.Goals as goal

pub returns-clause-served : goal.returns-clause-served
returns-clause-served g c = served_by c.plain-ask.result _ _ _ c.answered.result _ _ c.plain-ask.ensures.asks _ _ c.reported-report.result c.reported-report.ensures c.answered.ensures.reports c.answered.ensures.refuses

pub returns-clause-own : goal.returns-clause-own
returns-clause-own g c = λ files may. own_order_answer _ _ _ _ (returns-clause-served g c files may)

pub returns-clause-detected : goal.returns-clause-detected
returns-clause-detected g c = λ files may. detected_order_answer _ _ _ _ (returns-clause-served g c files may)

pub returns-clause-own_manifest : goal.returns-clause-own_manifest
returns-clause-own_manifest g c = λ files may. own_manifest_answer _ _ _ _ (returns-clause-served g c files may)

pub returns-clause-earlier : goal.returns-clause-earlier
returns-clause-earlier g c = λ files may. earlier_answer _ _ _ _ (plain_impact c.args.words.now) (returns-clause-served g c files may)

pub returns-clause-complete : goal.returns-clause-complete
returns-clause-complete g c = λ files may. complete_answer _ _ _ _ (returns-clause-served g c files may)

pub returns-clause-eager : goal.returns-clause-eager
returns-clause-eager g c = λ files may. eager_answer files (plain c.args.words.now) (plain_over c.args.words.now)

pub returns-clause-taken : goal.returns-clause-taken
returns-clause-taken g c = taken_by c.plain-ask.result _ _ _ c.answered.result _ _ c.plain-ask.ensures.asks _ _ c.reported-report.result c.reported-report.ensures c.answered.ensures.reports c.answered.ensures.refuses

pub returns-clause-ends : goal.returns-clause-ends
returns-clause-ends g c = ends_by c.plain-ask.result _ _ _ c.answered.result _ _ c.plain-ask.ensures.asks _ _ c.reported-report.result c.reported-report.ensures c.answered.ensures.reports c.answered.ensures.refuses
