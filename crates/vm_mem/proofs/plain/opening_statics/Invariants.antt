use Rattle.std.proofs.Common.{◌≡◌, map, take}
use Rattle.vm_mem.proofs.plain.opening_statics.Given as goal

abbrev pub invariant-loop-field : goal.invariant-loop-field
invariant-loop-field l = l.statics.items ≡ map (λ f. f.opening) (take l.field-index l.field-items)
