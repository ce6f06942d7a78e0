use Rattle.std.proofs.Common.{◌<◌, ◌∙◌, sym, ap, arith, length, nat_eq}
use Rattle.std.proofs.lemmas.List.{get_or_default}
use Rattle.jvm_model.specs.World.{keep}
use Rattle.vm_mem.proofs.Entries.{kept_at}
use Rattle.vm_mem.proofs.object.set_entry.Goals as goal

pub returns-then-number-index : goal.returns-then-number-index
returns-then-number-index c =
    let h : c.loop-i.i < length c.loop-i.entries.items = omega arith in
    let e = c.index.ensures ∙ get_or_default c.loop-i.entries.items c.loop-i.i c.index.result.now c.index_mut.result.now h ∙ sym c.index_mut.ensures.value in
    kept_at c.loop-i.entries.items c.loop-i.i c.args.number c.args.v c.index_mut.result.now h c.loop-i.invariant.passed c.index_mut.ensures.value (c.if-number-index.true ∙ ap (λ x. x.0) e)
    ∙ ap (λ xs. keep nat_eq xs c.args.number c.args.v) c.loop-i.invariant.same
