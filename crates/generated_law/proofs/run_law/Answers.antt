use Rattle.generated_law.proofs.SuiteRuns.{run_law}
use Rattle.generated_law.proofs.run_law.Goals as goal

pub returns : goal.returns
returns c = run_law
