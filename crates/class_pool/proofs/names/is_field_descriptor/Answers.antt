use Rattle.class_pool.proofs.NamesSpelled.{field_exact}
use Rattle.class_pool.proofs.names.is_field_descriptor.Goals as goal

pub returns-clause-grammar : goal.returns-clause-grammar
returns-clause-grammar c = field_exact c.args.units.now c.is_whole_type.result c.is_whole_type.ensures
