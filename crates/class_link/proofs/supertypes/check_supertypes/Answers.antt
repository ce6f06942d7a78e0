use Rattle.std.proofs.Common.{◌∙◌, sym, subst, Option}
use Rattle.class_link.specs.{declared.fault.LinkFault.LinkFault, Answers.Fails, Faults.supertype_fault, Link.unless}
use Rattle.class_link.proofs.FaultLaws.{next_first, fails_first, fails_on}
use Rattle.class_link.proofs.supertypes.check_supertypes.Goals as goal

pub returns-in_err-check_supertype : goal.returns-in_err-check_supertype
returns-in_err-check_supertype c =
    let e = c.in_err-check_supertype.field-0.0 in
    fails_on c.from_residual-in_err-check_supertype.result e _ c.from_residual-in_err-check_supertype.ensures.1
    (subst (λ (x : Option LinkFault). Fails e (unless x)) c.loop-index.invariant
    (fails_first (supertype_fault c.args.setting.now c.args.class.now) c.loop-index.index _ e c.loop-index-test.true c.in_err-check_supertype.ensures))

pub loop-index-preserved : goal.loop-index-preserved
loop-index-preserved c = sym (next_first (supertype_fault c.args.setting.now c.args.class.now) c.loop-index.index _ c.in_ok-check_supertype.ensures c.loop-index-test.true) ∙ c.loop-index.invariant
