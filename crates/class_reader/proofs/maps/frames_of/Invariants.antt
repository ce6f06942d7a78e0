use Rattle.std.proofs.Common.{◌≡◌, ◌-◌, []}
use Rattle.class_reader.specs.Maps.{frames_at}
use Rattle.class_reader.proofs.maps.frames_of.Given as goal

abbrev pub invariant-loop-i : goal.invariant-loop-i
invariant-loop-i l = frames_at l.pool l.left l.len l.total (l.count - l.i) l.frames l.rest ≡ frames_at l.pool l.left l.len l.total l.count [] l.bytes
