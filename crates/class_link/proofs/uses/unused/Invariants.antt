use Rattle.std.proofs.Common.{◌≡◌, replicate, None}
use Rattle.class_link.proofs.uses.unused.Given as goal

abbrev pub invariant-loop-place : goal.invariant-loop-place
invariant-loop-place l = l.marks.items ≡ replicate l.place None
