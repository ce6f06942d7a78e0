use Rattle.electrictest.proofs.PlanLaws.{units_small}
use Rattle.electrictest.proofs.generated.summary_of.Goals as goal

pub total-units-requires : goal.total-units-requires
total-units-requires c = let r = c.args.begun.now.record in rw c.as_slice.ensures (units_small r.units r.edges r.form)
