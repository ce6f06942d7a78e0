use Rattle.std.proofs.Common.{◌≡◌, [], flat_map, take, nat_eq}
use Rattle.indexmap.specs.IndexSet.{insert_all}
use Rattle.vm_calls.specs.Choices.{above_of}
use Rattle.vm_calls.proofs.selecting.above_methods.Given as goal

abbrev pub invariant-loop-method : goal.invariant-loop-method
invariant-loop-method l = l.above.keys ≡ insert_all nat_eq [] (flat_map (λ n. above_of l.p n) (take l.method-index l.methods))
