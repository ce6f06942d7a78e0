use Rattle.std.proofs.Common.{◌≡◌, ◌++◌, take}
use Rattle.et_base.specs.Utf.{utf}
use Rattle.et_base.proofs.utf.push_modified.Given as goal

abbrev pub invariant-loop-unit : goal.invariant-loop-unit
invariant-loop-unit l = l.out.items ≡ l.initial.out.items ++ utf (take l.unit-index l.units)
