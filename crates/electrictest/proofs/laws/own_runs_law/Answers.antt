use Rattle.electrictest.proofs.PoolLaws.{own_runs}
use Rattle.electrictest.proofs.laws.own_runs_law.Goals as goal

pub returns : goal.returns
returns c = own_runs
