use Rattle.std.proofs.Common.{◌≡◌, ◌++◌, map, take}
use Rattle.std.specs.Prelude.{option_map}
use Rattle.class_link.specs.Bodies as bodies
use Rattle.class_link.proofs.bodies.push_bodies.Given as goal

-- the bodies so far
abbrev pub invariant-loop-method : goal.invariant-loop-method
invariant-loop-method l = l.made ≡ l.fn.made ++ map (λ m. option_map (bodies.linked_body l.setting l.slots) m.code) (take l.method-index l.methods)
