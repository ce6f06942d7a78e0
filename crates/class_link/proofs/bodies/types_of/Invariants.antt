use Rattle.std.proofs.Common.{◌≡◌, map, take}
use Rattle.class_link.specs.Bodies as bodies
use Rattle.class_link.proofs.bodies.types_of.Given as goal

-- the types so far
abbrev pub invariant-loop-kind : goal.invariant-loop-kind
invariant-loop-kind l = l.types ≡ map (bodies.type_rec l.slots) (take l.kind-index l.kinds)
