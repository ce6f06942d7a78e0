use Rattle.std.proofs.Common.{take}
use Rattle.code_decode.specs.Targets.{Marks}
use Rattle.code_decode.proofs.starts.Starts.of.Given as goal

abbrev pub invariant-loop-op : goal.invariant-loop-op
invariant-loop-op l = Marks l.marks.items (take l.op-index l.ops) l.total
