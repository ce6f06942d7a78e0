use Rattle.order_law.proofs.{Histories.law_of_order, OwnRecord.own_law, OwnRecord.is_record}
use Rattle.order_law.proofs.lawful_order_law.Goals as goal

pub returns-clause-own : goal.returns-clause-own
returns-clause-own c = own_law

pub returns-clause-any : goal.returns-clause-any
returns-clause-any c = law_of_order

pub returns-clause-edges : goal.returns-clause-edges
returns-clause-edges c = λ p T by. is_record p T by
