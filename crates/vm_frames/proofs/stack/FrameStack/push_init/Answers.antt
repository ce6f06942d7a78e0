use Rattle.std.proofs.Common.{sym, ap, ◌∙◌}
use Rattle.jvm_model.specs.Entries.{is_full}
use Rattle.vm_frames.proofs.Entering.{standing-init}
use Rattle.vm_frames.proofs.stack.FrameStack.push_init.Goals as goal

pub invariant_of-self-2 : goal.invariant_of-self-2
invariant_of-self-2 c =
    let i = c.self.inside in
    standing-init i.slots i.current c.init-self-inside.result i.saved.items c.save.new.saved.items c.args.class c.self.invariant (ap is_full c.self.view_is ∙ (sym c.is_full.ensures ∙ c.if-is_full.false)) c.init-self-inside.ensures c.in_ok-save.ensures.saved
