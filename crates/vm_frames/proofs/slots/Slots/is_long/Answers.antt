use Rattle.vm_frames.proofs.Kept.{is_long_read, not_long_read}
use Rattle.vm_frames.proofs.slots.Slots.is_long.Goals as goal

pub returns-in-OfLong : goal.returns-in-OfLong
returns-in-OfLong c =
    let i = c.self.inside in
    is_long_read i.tags.items i.bits.items c.args.self.now c.args.i c.index.result.now c.self.view_is c.self.invariant c.requires c.index.ensures c.in-OfLong.is

pub returns-in_default : goal.returns-in_default
returns-in_default c =
    let i = c.self.inside in
    not_long_read i.tags.items i.bits.items c.args.self.now c.args.i c.index.result.now c.self.view_is c.self.invariant c.requires c.index.ensures c.in_default.not-OfLong
