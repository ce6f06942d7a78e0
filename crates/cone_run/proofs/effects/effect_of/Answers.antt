use Rattle.cone_run.proofs.MarkLaws.{over_effect}
use Rattle.cone_run.proofs.effects.effect_of.Goals as goal

pub returns-in-Err-OverBudget-clause-effect : goal.returns-in-Err-OverBudget-clause-effect
returns-in-Err-OverBudget-clause-effect g c =
    let o = c.in-Err-OverBudget in
    over_effect c.args.machine.now.program c.args.list.now c.args.outcome.now _ _ _ _ o.field-0-is o.ensures.fault
