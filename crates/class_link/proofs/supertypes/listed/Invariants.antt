use Rattle.std.proofs.Common.{take}
use Rattle.class_link.specs.Marks.{Lists}
use Rattle.class_link.proofs.supertypes.listed.Given as goal

abbrev pub invariant-loop-index : goal.invariant-loop-index
invariant-loop-index l = Lists l.table.items l.size (take l.index-index l.indices)
