use Rattle.std.proofs.Common.{◌≡◌, nat_eq, drop}
use Rattle.jvm_model.specs.{declared.values.Value.TheVariants.Null, World.look}
use Rattle.vm_mem.proofs.object.Object.field.Given as goal

abbrev pub invariant-loop-number : goal.invariant-loop-number
invariant-loop-number l = look nat_eq Null (drop l.number-index l.number-items) l.field ≡ look nat_eq Null l.number-items l.field
