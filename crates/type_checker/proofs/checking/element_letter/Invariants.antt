use Rattle.std.proofs.Common.{◌≡◌, drop}
use Rattle.type_frames.specs.Descriptors.{element_letter}
use Rattle.type_checker.proofs.checking.element_letter.Given as goal

abbrev pub invariant-loop-u : goal.invariant-loop-u
invariant-loop-u l = element_letter l.text ≡ element_letter (drop l.u-index l.text)
