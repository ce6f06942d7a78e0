use Rattle.std.proofs.Common.{◌≡◌, map, take}
use Rattle.jvm_model.specs.declared.values.InitState.TheVariants.{Idle}
use Rattle.vm_mem.proofs.plain.opening_states.Given as goal

abbrev pub invariant-loop-class : goal.invariant-loop-class
invariant-loop-class l = l.states.items ≡ map (λ c. Idle) (take l._class-index l._class-items)
