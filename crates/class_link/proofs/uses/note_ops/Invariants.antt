use Rattle.std.proofs.Common.{◌≡◌, flat_map, take}
use Rattle.class_link.specs.{Marks.noted_by, References.op_use}
use Rattle.class_link.proofs.uses.note_ops.Given as goal

abbrev pub invariant-loop-op : goal.invariant-loop-op
invariant-loop-op l = l.marks.items ≡ noted_by l.user l.fn.marks.items (flat_map op_use (take l.op-index l.ops))
