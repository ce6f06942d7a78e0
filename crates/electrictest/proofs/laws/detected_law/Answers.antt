use Rattle.jvm_model.proofs.Detection.{detected_from, no_fault_where_detected}
use Rattle.electrictest.proofs.laws.detected_law.Goals as goal

pub returns : goal.returns
returns c = λ p. (no_fault_where_detected p, detected_from p)
