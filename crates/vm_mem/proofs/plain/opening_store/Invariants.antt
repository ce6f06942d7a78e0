use Rattle.std.proofs.Common.{◌≡◌, [], map, take, Some}
use Rattle.vm_mem.proofs.plain.opening_store.Given as goal

abbrev pub invariant-loop-name : goal.invariant-loop-name
invariant-loop-name l = l.store ≡ record { files = map (λ x. (x.0, Some x.1)) (take l.name-index l.name-items); props = [] }
