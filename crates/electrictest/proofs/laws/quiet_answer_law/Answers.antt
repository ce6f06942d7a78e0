use Rattle.electrictest.proofs.CompleteLaws.{quietly_complete}
use Rattle.electrictest.proofs.laws.quiet_answer_law.Goals as goal

pub returns : goal.returns
returns c = quietly_complete
