use Rattle.order_law.proofs.WalksThere.{walk_law}
use Rattle.order_law.proofs.walk_law.Goals as goal

pub returns : goal.returns
returns c = walk_law
