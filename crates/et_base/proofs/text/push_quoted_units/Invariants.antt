use Rattle.std.proofs.Common.{◌≡◌, ◌++◌, take}
use Rattle.std.specs.List.{flat_map}
use Rattle.et_base.specs.Quotes.{quoted_unit}
use Rattle.et_base.proofs.text.push_quoted_units.Given as goal

abbrev pub invariant-loop-unit : goal.invariant-loop-unit
invariant-loop-unit l = l.out ≡ l.initial.out ++ flat_map quoted_unit (take l.unit-index l.units)
