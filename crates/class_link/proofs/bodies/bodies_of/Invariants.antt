use Rattle.std.proofs.Common.{◌≡◌, take}
use Rattle.class_link.specs.Assembly.{bodies_of}
use Rattle.class_link.specs.Bodies as bodies
use Rattle.class_link.proofs.bodies.bodies_of.Given as goal

-- the bodies so far
abbrev pub invariant-loop-class : goal.invariant-loop-class
invariant-loop-class l = record {
  place : l.place ≡ l.class-index;
  made : l.made ≡ bodies_of (λ c code. bodies.linked_body l.setting c.pool code) (take l.class-index l.classes);
}
