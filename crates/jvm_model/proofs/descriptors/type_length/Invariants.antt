use Rattle.std.proofs.Common.{◌≡◌, ◌+◌, false, drop}
use Rattle.jvm_model.specs.Scanning.{type_length}
use Rattle.jvm_model.proofs.descriptors.type_length.Given as goal

-- the units so far, and what is left of the type
abbrev pub invariant-loop-n : goal.invariant-loop-n
invariant-loop-n l = l.n + type_length l.in_name (drop l.n l.units) ≡ type_length false l.units
