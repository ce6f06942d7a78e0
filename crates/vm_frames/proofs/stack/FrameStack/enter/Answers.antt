use Rattle.std.proofs.Common.{sym, ap, ◌∙◌, ◌-◌, arith}
use Rattle.jvm_model.specs.Entries.{Entries, is_full}
use Rattle.vm_frames.specs.Stack.{called_with}
use Rattle.vm_frames.proofs.Tops.{length_downwards, limit_most}
use Rattle.std.proofs.lemmas.Result.{err_from_is_err_and}
use Rattle.vm_frames.proofs.Entering.{standing-entered, standing-grown, entries-entered, entries-kept, few_operands}
use Rattle.vm_frames.proofs.stack.FrameStack.enter.Goals as goal

pub overflow_sub-from : goal.overflow_sub-from
overflow_sub-from c =
    let i = c.self.inside in
    omega (arith, few_operands i.slots i.current i.saved.items c.args.self.now c.args.arguments c.self.view_is c.requires, length_downwards i.slots i.current.top (i.current.top - i.current.first) (omega arith))

pub invariant_of-self-in_err-save : goal.invariant_of-self-in_err-save
invariant_of-self-in_err-save c =
    rw c.in_err-save.ensures.kept (standing-grown _ _ _ _ c.in_ok-first.ensures.made.slots c.in_ok-first.ensures.made.few c.self.invariant)

pub returns-in_err-save-clause-kept : goal.returns-in_err-save-clause-kept
returns-in_err-save-clause-kept c =
    let i = c.self.inside in
    let kept = entries-kept i.slots c.frame_of_operands.new.slots i.current i.saved.items c.save.new.saved.items c.args.max_locals _ c.in_ok-first.first c.args.self.now c.self.invariant c.in_ok-first.ensures.made c.in_err-save.ensures.kept c.self.view_is in
    let failed = err_from_is_err_and c.from_residual-in_err-save.result c.from_residual-in_err-save.ensures.1 in
    rw failed.1 kept

pub invariant_of-self-2 : goal.invariant_of-self-2
invariant_of-self-2 c =
    let i = c.self.inside in
    standing-entered i.slots c.frame_of_operands.new.slots i.current c.frame-self-inside.result i.saved.items c.save.new.saved.items c.args.arguments c.args.method c.args.max_locals _ c.in_ok-first.first c.self.invariant
    (ap is_full c.self.view_is ∙ (sym c.is_full.ensures ∙ c.if-is_full.false)) (few_operands i.slots i.current i.saved.items c.args.self.now c.args.arguments c.self.view_is c.requires) c.in_ok-first.ensures.made c.frame-self-inside.ensures c.in_ok-save.ensures.saved

pub returns-clause-entered : goal.returns-clause-entered
returns-clause-entered c =
    let i = c.self.inside in
    entries-entered i.slots c.frame_of_operands.new.slots i.current c.frame-self-inside.result i.saved.items c.save.new.saved.items c.args.arguments c.args.method c.args.max_locals c.in_ok-first.first c.self.invariant
    (few_operands i.slots i.current i.saved.items c.args.self.now c.args.arguments c.self.view_is c.requires) c.in_ok-first.ensures.made c.frame-self-inside.ensures c.in_ok-save.ensures.saved
    ∙ ap (λ (s : Entries). called_with c.args.max_locals c.args.method c.args.arguments s) c.self.view_is

pub frame_of_operands-requires-clause-limit : goal.frame_of_operands-requires-clause-limit
frame_of_operands-requires-clause-limit c =
    let i = c.self.inside in
    omega (arith, c.self.invariant.here, limit_most i.current.kind, few_operands i.slots i.current i.saved.items c.args.self.now c.args.arguments c.self.view_is c.requires, length_downwards i.slots i.current.top (i.current.top - i.current.first) (omega arith))
