use Rattle.std.proofs.Common.{◌∙◌}
use Rattle.class_pool.proofs.NamesSpelled.{method_found, method_again}
use Rattle.class_pool.proofs.names.argument_units.Goals as goal

pub returns-clause-found : goal.returns-clause-found
returns-clause-found c = method_found c.args.units.now c.count_arguments.result c.count_arguments.ensures

pub returns-clause-only : goal.returns-clause-only
returns-clause-only c = λ n m. c.count_arguments.ensures ∙ method_again c.args.units.now n m
