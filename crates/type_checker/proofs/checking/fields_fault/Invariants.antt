use Rattle.std.proofs.Common.{◌≡◌, drop}
use Rattle.type_frames.specs.Typing.{fields_fault}
use Rattle.type_checker.proofs.checking.fields_fault.Given as goal

abbrev pub invariant-loop-n : goal.invariant-loop-n
invariant-loop-n l = fields_fault l.program l.class l.class.fields ≡ fields_fault l.program l.class (drop l.n-index l.class.fields)
