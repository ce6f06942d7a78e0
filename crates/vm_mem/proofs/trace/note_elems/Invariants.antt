use Rattle.std.proofs.Common.{◌≡◌, ◌++◌, map, drop}
use Rattle.jvm_model.specs.Access.{elems_made}
use Rattle.vm_mem.specs.Noting.{noted_by}
use Rattle.vm_mem.proofs.trace.note_elems.Given as goal

abbrev pub invariant-loop-index : goal.invariant-loop-index
invariant-loop-index l =
    l.noted ++ map (noted_by l.test) (elems_made l.object l.index (drop l.index l.elems))
    ≡ l.initial.noted ++ map (noted_by l.test) (elems_made l.object 0 l.elems)
