use Rattle.std.proofs.Common.{◌≡◌, [], flat_map, take, nat_eq}
use Rattle.indexmap.specs.IndexSet.{insert_all}
use Rattle.jvm_model.specs.Classes.{own_interfaces}
use Rattle.vm_tables.proofs.hierarchy.note_own.Given as goal

abbrev pub invariant-loop-class : goal.invariant-loop-class
invariant-loop-class l = l.noted.keys ≡ insert_all nat_eq [] (flat_map (λ d. own_interfaces l.p d) (take l.class-index l.chain))
