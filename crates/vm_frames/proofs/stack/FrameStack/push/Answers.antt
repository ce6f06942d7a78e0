use Rattle.std.proofs.Common.{sym, ap, ◌∙◌}
use Rattle.std.specs.Option.{option_to_list}
use Rattle.jvm_model.specs.Entries.{Entries, is_full, with_entry}
use Rattle.vm_frames.specs.Stack.{frame_with}
use Rattle.std.proofs.lemmas.Result.{err_from_is_err_and}
use Rattle.vm_frames.proofs.Entering.{standing-pushed, standing-grown, entries-pushed, entries-kept}
use Rattle.vm_frames.proofs.stack.FrameStack.push.Goals as goal

pub invariant_of-self-in_err-save : goal.invariant_of-self-in_err-save
invariant_of-self-in_err-save c =
    rw c.in_err-save.ensures.kept (standing-grown _ _ _ _ c.in_ok-first.ensures.made.slots c.in_ok-first.ensures.made.few c.self.invariant)

pub returns-in_err-save-clause-kept : goal.returns-in_err-save-clause-kept
returns-in_err-save-clause-kept c =
    let i = c.self.inside in
    let kept = entries-kept i.slots c.frame_of_receiver.new.slots i.current i.saved.items c.save.new.saved.items c.args.max_locals (option_to_list c.args.receiver) c.in_ok-first.first c.args.self.now c.self.invariant c.in_ok-first.ensures.made c.in_err-save.ensures.kept c.self.view_is in
    let failed = err_from_is_err_and c.from_residual-in_err-save.result c.from_residual-in_err-save.ensures.1 in
    rw failed.1 kept

pub invariant_of-self-2 : goal.invariant_of-self-2
invariant_of-self-2 c =
    let i = c.self.inside in
    standing-pushed i.slots c.frame_of_receiver.new.slots i.current c.frame-self-inside.result i.saved.items c.save.new.saved.items c.args.method c.args.max_locals (option_to_list c.args.receiver) c.in_ok-first.first c.self.invariant
    (ap is_full c.self.view_is ∙ (sym c.is_full.ensures ∙ c.if-is_full.false)) c.in_ok-first.ensures.made c.frame-self-inside.ensures c.in_ok-save.ensures.saved

pub returns-clause-pushed : goal.returns-clause-pushed
returns-clause-pushed c =
    let i = c.self.inside in
    entries-pushed i.slots c.frame_of_receiver.new.slots i.current c.frame-self-inside.result i.saved.items c.save.new.saved.items c.args.method c.args.max_locals (option_to_list c.args.receiver) c.in_ok-first.first c.self.invariant c.in_ok-first.ensures.made c.frame-self-inside.ensures c.in_ok-save.ensures.saved
    ∙ ap (λ (s : Entries). with_entry (frame_with c.args.max_locals c.args.method (option_to_list c.args.receiver)) s) c.self.view_is
