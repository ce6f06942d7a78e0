use Rattle.quiet_init.proofs.Typed.{typed_again}
use Rattle.quiet_init.proofs.typed_law.Goals as goal

pub returns : goal.returns
returns c = typed_again
