use Rattle.std.proofs.Common.{◌≡◌, drop}
use Rattle.type_frames.specs.Typing.{members_fault}
use Rattle.type_checker.proofs.checking.members_fault.Given as goal

abbrev pub invariant-loop-n : goal.invariant-loop-n
invariant-loop-n l = members_fault l.program l.class l.class.methods ≡ members_fault l.program l.class (drop l.n-index l.class.methods)
