use Rattle.std.proofs.Common.{◌≡◌, map, take}
use Rattle.class_link.specs.Bodies as bodies
use Rattle.class_link.proofs.bodies.frames_of.Given as goal

-- the frames so far
abbrev pub invariant-loop-frame : goal.invariant-loop-frame
invariant-loop-frame l = l.rows ≡ map (bodies.frame_rec l.slots) (take l.frame-index l.frames)
