use Rattle.quiet_init.proofs.StillSteps.{still_law}
use Rattle.quiet_init.proofs.still_law.Goals as goal

pub returns : goal.returns
returns c = still_law
