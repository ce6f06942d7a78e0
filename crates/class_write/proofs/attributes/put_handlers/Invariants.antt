use Rattle.std.proofs.Common.{◌≡◌, ◌++◌, take, length}
use Rattle.std.specs.List.{flat_map}
use Rattle.class_write.specs.Spelling.{short_bytes, handler_bytes}
use Rattle.class_write.proofs.attributes.put_handlers.Given as goal

abbrev pub invariant-loop-handler : goal.invariant-loop-handler
invariant-loop-handler l = l.out.items ≡ l.fn.out.items ++ short_bytes (length l.handlers) ++ flat_map (handler_bytes) (take l.handler-index l.handlers)
