use Rattle.std.proofs.Common.{◌≡◌, ◌<◌, ◌^◌, get_or, arith}
use Rattle.std.specs.Int.{w32, cast_signed}
use Rattle.std.proofs.lemmas.Int.{ints}
use Rattle.jvm_model.specs.declared.values.Value.TheVariants.{Int, Null}
use Rattle.vm_frames.proofs.Kept.{int_read, int_fits}
use Rattle.vm_frames.proofs.slots.Slots.int_at.Goals as goal

pub overflow_cast-index : goal.overflow_cast-index
overflow_cast-index c =
    let i = c.self.inside in
    let fit : c.index.result.now < 2 ^ 32 = int_fits i.tags.items i.bits.items c.args.self.now c.args.i c.index.result.now c.self.view_is c.self.invariant c.requires.place c.index.ensures c.requires.int in
    omega (arith, fit)

pub returns : goal.returns
returns c =
    let i = c.self.inside in
    let read : get_or c.args.self.now c.args.i Null ≡ Int (cast_signed w32 c.index.result.now) = int_read i.tags.items i.bits.items c.args.self.now c.args.i c.index.result.now c.self.view_is c.self.invariant c.requires.place c.index.ensures c.requires.int in
    let given = c.cast_signed.ensures in
    first_of (cc, grind (arith, ints))
