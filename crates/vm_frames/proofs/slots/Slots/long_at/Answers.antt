use Rattle.std.proofs.Common.{◌≡◌, get_or, arith}
use Rattle.std.specs.Int.{w64, cast_signed}
use Rattle.std.proofs.lemmas.Int.{ints}
use Rattle.jvm_model.specs.declared.values.Value.TheVariants.{Long, Null}
use Rattle.vm_frames.proofs.Kept.{long_read}
use Rattle.vm_frames.proofs.slots.Slots.long_at.Goals as goal

pub returns : goal.returns
returns c =
    let i = c.self.inside in
    let read : get_or c.args.self.now c.args.i Null ≡ Long (cast_signed w64 c.index.result.now) = long_read i.tags.items i.bits.items c.args.self.now c.args.i c.index.result.now c.self.view_is c.self.invariant c.requires.place c.index.ensures c.requires.long in
    let given = c.cast_signed.ensures in
    first_of (cc, grind (arith, ints))
