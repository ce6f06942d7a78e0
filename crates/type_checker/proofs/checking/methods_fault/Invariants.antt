use Rattle.std.proofs.Common.{◌≡◌, drop}
use Rattle.type_frames.specs.Typing.{methods_fault}
use Rattle.type_checker.proofs.checking.methods_fault.Given as goal

abbrev pub invariant-loop-n : goal.invariant-loop-n
invariant-loop-n l = methods_fault l.mapped l.class.name 1 l.class.methods ≡ methods_fault l.mapped l.class.name l.number (drop l.n-index l.class.methods)
