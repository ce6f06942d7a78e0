use Rattle.cone_run.proofs.ConeLaw.{cone_law, own_cone_law}
use Rattle.cone_run.proofs.laws.cone_law.Goals as goal

pub returns-clause-lawful : goal.returns-clause-lawful
returns-clause-lawful c = cone_law

pub returns-clause-own : goal.returns-clause-own
returns-clause-own c = own_cone_law
