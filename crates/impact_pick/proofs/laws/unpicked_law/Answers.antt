use Rattle.impact_pick.proofs.Unpicked.{kept_law, unpicked_law}
use Rattle.impact_pick.proofs.laws.unpicked_law.Goals as goal

pub returns-clause-kept : goal.returns-clause-kept
returns-clause-kept c = kept_law

pub returns-clause-lines : goal.returns-clause-lines
returns-clause-lines c = unpicked_law
