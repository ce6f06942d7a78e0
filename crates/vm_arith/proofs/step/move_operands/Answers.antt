use Rattle.vm_arith.proofs.Steps.{same_form}
use Rattle.vm_arith.proofs.step.move_operands.Goals as goal

pub returns-in-Load : goal.returns-in-Load
returns-in-Load c = same_form _ _ _ _ c.in-Load.is (c.load.ensures c.in-Load.of)

pub returns-in-Store : goal.returns-in-Store
returns-in-Store c = same_form _ _ _ _ c.in-Store.is (c.store.ensures c.in-Store.of)
