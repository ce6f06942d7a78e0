use Rattle.std.proofs.Common.{◌≡◌, map, take}
use Rattle.type_frames.specs.Given.{given_frames}
use Rattle.type_checker.proofs.maps.Mapped.new.Given as goal

abbrev pub invariant-loop-m : goal.invariant-loop-m
invariant-loop-m l = l.given ≡ map (given_frames l.program) (take l.m-index l.program.methods)
