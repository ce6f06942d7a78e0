use Rattle.std.proofs.Common.{◌≡◌, ◌≤◌, ◌∙◌, length, arith}
use Rattle.std.proofs.lemmas.Result.{err_from_is_err_and}
use Rattle.vm_frames.specs.Slots.{values, AreFit}
use Rattle.vm_frames.proofs.Kept.{form_grown, form_more, values_grown, values_more, length_values}
use Rattle.vm_frames.proofs.slots.Slots.grow_apart.Goals as goal

pub invariant_of-self-2 : goal.invariant_of-self-2
invariant_of-self-2 c =
    let i = c.self.inside in
    rw (c.in_ok-grow_bits.ensures.grown, c.in_ok-grow_tags.ensures.grown) (form_grown i.tags.items i.bits.items c.args.wanted c.self.invariant)

pub invariant_of-self-in_err-grow_tags : goal.invariant_of-self-in_err-grow_tags
invariant_of-self-in_err-grow_tags c =
    let i = c.self.inside in
    rw (c.in_ok-grow_bits.ensures.grown, c.in_err-grow_tags.ensures.kept) (form_more i.tags.items i.bits.items _ c.self.invariant)

pub returns-clause-grown : goal.returns-clause-grown
returns-clause-grown c =
    let i = c.self.inside in
    rw (c.in_ok-grow_bits.ensures.grown, c.in_ok-grow_tags.ensures.grown) (values_grown i.tags.items i.bits.items c.args.self.now c.args.wanted c.self.view_is c.self.invariant.0)

pub returns-clause-few : goal.returns-clause-few
returns-clause-few c =
    let ts = c.grow_tags.new.tags.items in
    let bs = c.grow_bits.new.bits.items in
    let form : length ts ≤ length bs × AreFit ts bs = invariant_of-self-2 c in
    omega (arith, form.0, length_values ts bs form.0, c.grow_bits.ensures.few)

pub returns-in_err-grow_tags-clause-few : goal.returns-in_err-grow_tags-clause-few
returns-in_err-grow_tags-clause-few c =
    let ts = c.grow_tags.new.tags.items in
    let bs = c.grow_bits.new.bits.items in
    let form : length ts ≤ length bs × AreFit ts bs = rw (c.in_ok-grow_bits.ensures.grown, c.in_err-grow_tags.ensures.kept) (form_more c.self.inside.tags.items c.self.inside.bits.items _ c.self.invariant) in
    omega (arith, form.0, length_values ts bs form.0, c.grow_bits.ensures.few)

pub returns-in_err-grow_tags-clause-kept : goal.returns-in_err-grow_tags-clause-kept
returns-in_err-grow_tags-clause-kept c =
    let i = c.self.inside in
    let kept : values c.grow_tags.new.tags.items c.grow_bits.new.bits.items ≡ c.args.self.now = rw (c.in_ok-grow_bits.ensures.grown, c.in_err-grow_tags.ensures.kept) (values_more i.tags.items i.bits.items _ c.self.invariant.0 ∙ c.self.view_is) in
    let failed = err_from_is_err_and c.from_residual-in_err-grow_tags.result c.from_residual-in_err-grow_tags.ensures.1 in
    rw failed.1 kept
