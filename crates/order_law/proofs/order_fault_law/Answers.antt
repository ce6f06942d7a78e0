use Rattle.order_law.proofs.OrderFaults.{law_of_faults}
use Rattle.order_law.proofs.order_fault_law.Goals as goal

pub returns : goal.returns
returns c = law_of_faults
