use Rattle.std.proofs.Common.{◌≡◌, drop}
use Rattle.type_frames.specs.Typing.{classes_fault}
use Rattle.type_checker.proofs.checking.classes_fault.Given as goal

abbrev pub invariant-loop-c : goal.invariant-loop-c
invariant-loop-c l = classes_fault l.mapped l.cs ≡ classes_fault l.mapped (drop l.c-index l.cs)
