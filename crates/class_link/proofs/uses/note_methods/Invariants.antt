use Rattle.std.proofs.Common.{◌≡◌, flat_map, take}
use Rattle.class_link.specs.{Marks.noted_by, References.code_uses}
use Rattle.class_link.proofs.uses.note_methods.Given as goal

abbrev pub invariant-loop-method : goal.invariant-loop-method
invariant-loop-method l = l.marks.items ≡ noted_by l.user l.fn.marks.items (flat_map (λ m. code_uses m.code) (take l.method-index l.methods))
