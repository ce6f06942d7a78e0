use Rattle.generated_law.proofs.LinkedSuite.{link_law}
use Rattle.generated_law.proofs.link_law.Goals as goal

pub returns : goal.returns
returns c = link_law
