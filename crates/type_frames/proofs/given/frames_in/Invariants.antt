use Rattle.std.proofs.Common.{◌≡◌, ◌<◌, ◌^◌, drop}
use Rattle.type_frames.specs.{Given.frames_from, MapReading.prefixed}
use Rattle.type_frames.proofs.given.frames_in.Given as goal

abbrev pub invariant-loop-entry : goal.invariant-loop-entry
invariant-loop-entry l = (prefixed l.frames (frames_from l.b l.least l.locals (drop l.entry-index l.b.frames)) ≡ frames_from l.b 0 l.fn.types l.b.frames) × (l.least < 2 ^ 33)
