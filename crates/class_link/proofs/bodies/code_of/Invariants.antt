use Rattle.std.proofs.Common.{◌≡◌, map, take}
use Rattle.code_forms.specs.Operands as operands
use Rattle.class_link.specs.Bodies as bodies
use Rattle.class_link.proofs.bodies.code_of.Given as goal

-- the instructions so far
abbrev pub invariant-loop-op : goal.invariant-loop-op
invariant-loop-op l = l.code ≡ map (λ o. bodies.placed_by (bodies.target_in l.targets (operands.index_in o)) o) (take l.op-index l.ops)
