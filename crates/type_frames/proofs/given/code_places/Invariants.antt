use Rattle.std.proofs.Common.{◌≡◌, ◌++◌, drop}
use Rattle.type_frames.specs.Given.{places}
use Rattle.type_frames.proofs.given.code_places.Given as goal

abbrev pub invariant-loop-x : goal.invariant-loop-x
invariant-loop-x l = l.places.items ++ places (drop l.x-index l.code) ≡ places l.code
