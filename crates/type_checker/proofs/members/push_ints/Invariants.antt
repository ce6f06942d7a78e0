use Rattle.std.proofs.Common.{◌≡◌, ◌++◌, replicate}
use Rattle.type_frames.specs.declared.{vtype.VType.TheVariants.Int, stack_effect.OperandConstraint.TheVariants.Fits}
use Rattle.type_checker.proofs.members.push_ints.Given as goal

abbrev pub invariant-loop-done : goal.invariant-loop-done
invariant-loop-done l = l.needs ≡ l.initial.needs ++ replicate l.done (Fits Int)
