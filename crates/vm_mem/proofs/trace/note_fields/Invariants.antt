use Rattle.std.proofs.Common.{◌≡◌, ◌++◌, map, drop}
use Rattle.jvm_model.specs.Access.{fields_made}
use Rattle.vm_mem.specs.Noting.{noted_by}
use Rattle.vm_mem.proofs.trace.note_fields.Given as goal

abbrev pub invariant-loop-field : goal.invariant-loop-field
invariant-loop-field l =
    l.noted ++ map (noted_by l.test) (fields_made l.object (drop l.field-index l.fields))
    ≡ l.initial.noted ++ map (noted_by l.test) (fields_made l.object l.fields)
