use Rattle.suite_load.proofs.LoadOnce as law
use Rattle.suite_load.proofs.laws.loads_once.Goals as goal

pub returns : goal.returns
returns c = law.loads_once
