use Rattle.quiet_init.proofs.Walk.{left_law}
use Rattle.quiet_init.proofs.left_law.Goals as goal

pub returns : goal.returns
returns c = left_law
