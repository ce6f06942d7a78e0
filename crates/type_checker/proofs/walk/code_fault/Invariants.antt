use Rattle.std.proofs.Common.{◌≡◌, drop}
use Rattle.type_frames.specs.Typing.{incoming, code_fault}
use Rattle.type_checker.proofs.walk.code_fault.Given as goal

abbrev pub invariant-loop-k : goal.invariant-loop-k
invariant-loop-k l = (l.running ≡ incoming l.program l.context l.k) × (code_fault l.program l.name l.method l.context 0 l.context.body.code ≡ code_fault l.program l.name l.method l.context l.k (drop l.k l.context.body.code))
