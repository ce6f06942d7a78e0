use Rattle.impact_pick.proofs.Carried.{carried_law}
use Rattle.impact_pick.proofs.laws.carried_law.Goals as goal

pub returns : goal.returns
returns c = carried_law
