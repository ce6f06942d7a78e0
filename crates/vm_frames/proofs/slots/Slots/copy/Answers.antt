use Rattle.std.proofs.Common.{set, refl, ap, ◌∙◌}
use Rattle.jvm_model.specs.declared.values.Value.{Value}
use Rattle.vm_frames.proofs.Kept.{value_read, fit_read}
use Rattle.vm_frames.proofs.slots.Slots.copy.Goals as goal

pub put-requires-clause-fit : goal.put-requires-clause-fit
put-requires-clause-fit c =
    let i = c.self.inside in
    fit_read i.tags.items i.bits.items c.args.self.now c.args.from c.index-tag.result.now c.index-tag.result.now c.index-bits.result.now c.self.view_is c.self.invariant c.requires.from c.index-tag.ensures c.index-bits.ensures refl

pub returns : goal.returns
returns c =
    let i = c.self.inside in
    c.put.ensures ∙ ap (λ (v : Value). set c.args.self.now c.args.to v) (value_read i.tags.items i.bits.items c.args.self.now c.args.from c.index-tag.result.now c.index-tag.result.now c.index-bits.result.now c.self.view_is c.self.invariant c.requires.from c.index-tag.ensures c.index-bits.ensures refl)
