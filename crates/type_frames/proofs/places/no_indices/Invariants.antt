use Rattle.std.proofs.Common.{◌≡◌, replicate, None}
use Rattle.type_frames.proofs.places.no_indices.Given as goal

abbrev pub invariant-loop-place : goal.invariant-loop-place
invariant-loop-place l = l.first.items ≡ replicate l.place None
