use Rattle.std.proofs.Common.{◌≡◌, map, take}
use Rattle.jvm_model.specs.Classes.{default_of, field_at}
use Rattle.vm_mem.proofs.layouts.layout.Given as goal

abbrev pub invariant-loop-field : goal.invariant-loop-field
invariant-loop-field l = l.fields ≡ map (λ f. (f, default_of (field_at l.p f).descriptor)) (take l.field-index l.field-items)
