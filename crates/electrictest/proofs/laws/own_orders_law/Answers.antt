use Rattle.electrictest.proofs.OwnOrderLaws.{own_orders}
use Rattle.electrictest.proofs.laws.own_orders_law.Goals as goal

pub returns : goal.returns
returns c = own_orders
