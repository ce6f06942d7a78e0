use Rattle.vm_arith.proofs.{Steps.thrown, step.arith.Goals.in_default, step.arith.Goals.in-Binary}
use Rattle.vm_arith.proofs.step.arith.Goals as goal

pub returns-in_default-answer : goal.returns-in_default-answer
returns-in_default-answer c = thrown _ _ _ _ _ _ (elim c.match-form.branch [
  | in_default w ↦ rw (w.answer-is, w.stack-is) w.move_operands-answer.ensures
  | in-Binary w ↦ rw (w.answer-is, w.stack-is) w.calculate-answer.ensures
]) c.in_default-answer.not-Go
