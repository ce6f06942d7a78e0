use Rattle.outside.proofs.AnswerLaws.{alike_answers_hold}
use Rattle.outside.proofs.laws.alike_answers_law.Goals as goal

pub returns : goal.returns
returns c = alike_answers_hold
