use Rattle.std.proofs.Common.{◌≡◌, ◌-◌, take, length}
use Rattle.et_base.specs.Utf.{utf}
use Rattle.class_pool.proofs.pool.after_units.Given as goal

abbrev pub invariant-loop-unit : goal.invariant-loop-unit
invariant-loop-unit l = l.now ≡ l.left - length (utf (take l.unit-index l.units))
