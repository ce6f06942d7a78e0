use Rattle.std.proofs.Common.{◌∙◌, sym, ap, subst, Option}
use Rattle.class_link.specs.{declared.fault.LinkFault.LinkFault, Answers.Fails, Link.unless}
use Rattle.class_link.proofs.{FaultLaws.fails_on, MarkLaws.fault_all}
use Rattle.class_link.proofs.reference_faults.check_references.Goals as goal

pub returns-in_err-check_entries-clause-fault : goal.returns-in_err-check_entries-clause-fault
returns-in_err-check_entries-clause-fault c =
    let e = c.in_err-check_entries.field-0.0 in
    fails_on c.from_residual-in_err-check_entries.result e _ c.from_residual-in_err-check_entries.ensures.1
    (subst (λ (x : Option LinkFault). Fails e (unless x))
    (fault_all c.args.setting.now c.args.number c.args.class.now c.slots-slots.result.now c.as_slice-2.result.now c.as_slice.result.now c.deref.result.now c.slots-slots.ensures.gives (c.as_slice-2.ensures ∙ c.in_ok-targets.ensures) (c.as_slice.ensures ∙ c.in_ok-targets.ensures) (c.deref.ensures.value ∙ c.in_ok-marks.ensures))
    c.in_err-check_entries.ensures)

pub returns-clause-fault : goal.returns-clause-fault
returns-clause-fault c =
    ap (λ (x : Option LinkFault). unless x) (sym (fault_all c.args.setting.now c.args.number c.args.class.now c.slots-slots.result.now c.as_slice-2.result.now c.as_slice.result.now c.deref.result.now c.slots-slots.ensures.gives (c.as_slice-2.ensures ∙ c.in_ok-targets.ensures) (c.as_slice.ensures ∙ c.in_ok-targets.ensures) (c.deref.ensures.value ∙ c.in_ok-marks.ensures)))
    ∙ c.in_ok-check_entries.ensures
