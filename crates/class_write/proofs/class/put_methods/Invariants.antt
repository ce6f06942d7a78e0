use Rattle.std.proofs.Common.{◌≡◌, ◌++◌, take, length}
use Rattle.std.specs.List.{flat_map}
use Rattle.class_write.specs.Spelling.{short_bytes, method_bytes}
use Rattle.class_write.proofs.class.put_methods.Given as goal

abbrev pub invariant-loop-method : goal.invariant-loop-method
invariant-loop-method l = l.out.items ≡ l.fn.out.items ++ short_bytes (length l.methods) ++ flat_map (method_bytes l.names) (take l.method-index l.methods)
