use Rattle.std.proofs.Common.{◌≡◌, map, take}
use Rattle.class_link.specs.Bodies as bodies
use Rattle.class_link.proofs.bodies.handlers_of.Given as goal

-- the handlers so far
abbrev pub invariant-loop-handler : goal.invariant-loop-handler
invariant-loop-handler l = l.rows ≡ map (bodies.handler_rec l.names l.slots) (take l.handler-index l.handlers)
