use Rattle.vm_frames.proofs.Kept.{form_set}
use Rattle.vm_frames.proofs.slots.Slots.put.Goals as goal

pub invariant_of-self : goal.invariant_of-self
invariant_of-self c = form_set c.self.inside.tags.items c.self.inside.bits.items c.args.i c.args.tag c.args.bits c.self.invariant c.requires.fit
