use Rattle.std.proofs.Common.{◌<◌, ◌∷◌, [], length, arith}
use Rattle.jvm_model.specs.{declared.values.Value.TheVariants.Null, declared.values.Location.TheVariants.Elem, Access.write_of}
use Rattle.vm_mem.specs.Noting.{noted_by}
use Rattle.vm_mem.proofs.Parts.{rest_more, elems_made_rest}
use Rattle.vm_mem.proofs.trace.note_elems.Goals as goal

pub loop-index-preserved : goal.loop-index-preserved
loop-index-preserved c =
    let w : c.loop-index.index < length c.args.elems.now = omega arith in
    rest_more c.loop-index.noted c.note_write.new.noted _ (noted_by c.args.test (write_of (Elem c.args.object c.loop-index.index)) ∷ []) _ _ c.in_ok-note_write.ensures
    (elems_made_rest c.args.test c.args.object c.args.elems.now c.loop-index.index Null w) c.loop-index.invariant
