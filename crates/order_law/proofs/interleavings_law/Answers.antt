use Rattle.order_law.specs.{Histories.touches_of, OwnRecord.edges_of, OwnRecord.owner}
use Rattle.order_law.proofs.{OwnRecord.is_record, Plans.law_of_interleavings}
use Rattle.order_law.proofs.interleavings_law.Goals as goal

pub returns-clause-any : goal.returns-clause-any
returns-clause-any c = law_of_interleavings

pub returns-clause-own : goal.returns-clause-own
returns-clause-own c = λ p set C n es linked detected. law_of_interleavings p (edges_of p) set C n es linked detected (is_record p (touches_of p) (owner p))
