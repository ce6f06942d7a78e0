use Rattle.std.proofs.Common.{◌∙◌, sym, subst, Option}
use Rattle.class_link.specs.{declared.fault.LinkFault.LinkFault, Answers.Fails, Link.unless}
use Rattle.class_link.proofs.{FaultLaws.fails_on, MarkLaws.marked_next, MarkLaws.marked_fails}
use Rattle.class_link.proofs.reference_faults.check_entries.Goals as goal

pub returns-in_err-check_entry : goal.returns-in_err-check_entry
returns-in_err-check_entry c =
    let e = c.in_err-check_entry.field-0.0 in
    fails_on c.from_residual.result e _ c.from_residual.ensures.1
    (subst (λ (x : Option LinkFault). Fails e (unless x)) c.loop-index.invariant
    (marked_fails c.args.setting.now c.args.class.now c.args.targets.now c.args.marks.now c.loop-index.index _ _ _ e c.target_in-target.ensures c.mark_at.ensures c.loop-index-test.true c.in_err-check_entry.ensures))

pub loop-index-preserved : goal.loop-index-preserved
loop-index-preserved c =
    sym (marked_next c.args.setting.now c.args.class.now c.args.targets.now c.args.marks.now c.loop-index.index _ _ _ c.target_in-target.ensures c.mark_at.ensures c.loop-index-test.true c.in_ok-check_entry.ensures) ∙ c.loop-index.invariant
