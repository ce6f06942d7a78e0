use Rattle.std.proofs.Common.{◌≡◌, ◌++◌, take, length}
use Rattle.std.specs.List.{flat_map}
use Rattle.class_write.specs.Spelling.{short_bytes}
use Rattle.class_write.proofs.class.put_interfaces.Given as goal

abbrev pub invariant-loop-index : goal.invariant-loop-index
invariant-loop-index l = l.out.items ≡ l.fn.out.items ++ short_bytes (length l.interfaces) ++ flat_map (short_bytes) (take l.index-index l.interfaces)
