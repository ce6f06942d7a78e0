use Rattle.quiet_law.proofs.Suite.{quiet_law}
use Rattle.quiet_law.proofs.quiet_law.Goals as goal

pub returns : goal.returns
returns c = quiet_law
