use Rattle.std.proofs.Common.{length}
use Rattle.et_base.proofs.UtfLaws.{SoFar}
use Rattle.et_base.proofs.utf.units_of_modified.Given as goal

abbrev pub invariant-loop-rest : goal.invariant-loop-rest
invariant-loop-rest l = SoFar l.bytes l.units l.rest

abbrev pub decreases-loop-rest : goal.decreases-loop-rest
decreases-loop-rest l = length l.rest
