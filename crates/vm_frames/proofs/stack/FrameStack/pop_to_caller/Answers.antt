use Rattle.vm_frames.proofs.Entering.{entries-handed, standing-handed}
use Rattle.vm_frames.proofs.stack.FrameStack.pop_to_caller.Goals as goal

pub invariant_of-self : goal.invariant_of-self
invariant_of-self c =
    let i = c.self.inside in
    let below = c.take_saved-self-inside in
    rw c.copy.ensures (standing-handed i.slots below.result.top _ below.result i.current i.saved.items below.new.saved.items c.args.self.now below.ensures c.self.invariant c.self.view_is c.requires.room)

pub returns : goal.returns
returns c =
    let i = c.self.inside in
    let below = c.take_saved-self-inside in
    rw c.copy.ensures (entries-handed i.slots below.result i.current i.saved.items below.new.saved.items c.args.self.now below.ensures c.self.invariant c.self.view_is c.requires.operand)
