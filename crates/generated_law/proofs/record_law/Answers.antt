use Rattle.generated_law.proofs.SuiteRuns.{record_law}
use Rattle.generated_law.proofs.record_law.Goals as goal

pub returns : goal.returns
returns c = record_law
