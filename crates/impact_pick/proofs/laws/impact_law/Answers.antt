use Rattle.impact_pick.proofs.ImpactLaw.{impact_law}
use Rattle.impact_pick.proofs.laws.impact_law.Goals as goal

pub returns : goal.returns
returns c = impact_law
