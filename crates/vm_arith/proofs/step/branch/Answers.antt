use Rattle.std.proofs.Common.{rules}
use Rattle.vm_arith.proofs.Steps.{at_target}
use Rattle.vm_arith.proofs.step.branch.Goals as goal

pub returns-in-Table : goal.returns-in-Table
returns-in-Table c = at_target _ _ _ _ _ _ (search rules) c.table_switch.ensures

pub returns-in-Lookup : goal.returns-in-Lookup
returns-in-Lookup c = at_target _ _ _ _ _ _ (search rules) c.lookup_switch.ensures
