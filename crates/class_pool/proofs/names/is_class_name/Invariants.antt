use Rattle.std.proofs.Common.{◌≡◌, drop}
use Rattle.et_base.specs.Names.{is_class_name}
use Rattle.class_pool.proofs.NamesLaw.{is_named_on}
use Rattle.class_pool.proofs.names.is_class_name.Given as goal

abbrev pub invariant-loop-unit : goal.invariant-loop-unit
invariant-loop-unit l = is_named_on l.begun (drop l.unit-index l.units) ≡ is_class_name l.units
