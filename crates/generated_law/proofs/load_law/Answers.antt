use Rattle.generated_law.proofs.LoadedSuite.{load_law}
use Rattle.generated_law.proofs.load_law.Goals as goal

pub returns : goal.returns
returns c = load_law
