use Rattle.std.proofs.Common.{◌≡◌, flat_map, take}
use Rattle.class_link.specs.{Marks.noted_by, References.handler_use}
use Rattle.class_link.proofs.uses.note_handlers.Given as goal

abbrev pub invariant-loop-handler : goal.invariant-loop-handler
invariant-loop-handler l = l.marks.items ≡ noted_by l.user l.fn.marks.items (flat_map handler_use (take l.handler-index l.handlers))
