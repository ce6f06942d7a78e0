use Rattle.std.proofs.Common.{[]}
use Rattle.class_link.specs.Marks.{Lists}
use Rattle.class_link.proofs.supertypes.unlisted.Given as goal

abbrev pub invariant-loop-place : goal.invariant-loop-place
invariant-loop-place l = Lists l.table.items l.place []
