use Rattle.std.proofs.Common.{◌≡◌, filter, flat_map, take}
use Rattle.jvm_model.specs.{Classes.class_at, Selection.is_open_like}
use Rattle.vm_calls.proofs.selecting.open_in.Given as goal

abbrev pub invariant-loop-interface : goal.invariant-loop-interface
invariant-loop-interface l = l.found ≡ flat_map (λ i. filter (λ n. is_open_like l.p l.method n) (class_at l.p i).methods) (take l.interface-index l.interfaces)
