use Rattle.vm_frames.proofs.Tops.{standing-raised}
use Rattle.vm_frames.proofs.stack.FrameStack.push_operand.Goals as goal

pub invariant_of-self : goal.invariant_of-self
invariant_of-self c =
    let i = c.self.inside in
    rw c.copy.ensures (standing-raised i.slots i.current.top _ i.current i.saved.items c.args.self.now c.self.invariant c.self.view_is c.requires.room)
