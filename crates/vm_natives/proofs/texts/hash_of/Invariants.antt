use Rattle.std.proofs.Common.{◌≡◌, ◌%◌, ◌^◌, drop}
use Rattle.jvm_model.specs.NativesString.{hash_sum}
use Rattle.vm_natives.proofs.texts.hash_of.Given as goal

-- the units that are left complete the sum
abbrev pub invariant-loop-unit : goal.invariant-loop-unit
invariant-loop-unit l = hash_sum l.hash (drop l.unit-index l.text) % 2 ^ 32 ≡ hash_sum 0 l.text % 2 ^ 32
