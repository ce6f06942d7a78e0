use Rattle.generated_law.proofs.SuiteRuns.{chain_law}
use Rattle.generated_law.proofs.chain_law.Goals as goal

pub returns : goal.returns
returns c = chain_law
