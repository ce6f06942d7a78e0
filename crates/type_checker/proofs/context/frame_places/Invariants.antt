use Rattle.std.proofs.Common.{◌≡◌, take, map}
use Rattle.type_checker.proofs.context.frame_places.Given as goal

abbrev pub invariant-loop-g : goal.invariant-loop-g
invariant-loop-g l = l.places.items ≡ map (λ g. g.pc) (take l.g-index l.frames)
