use Rattle.generated_law.proofs.SuiteText.{text_law}
use Rattle.generated_law.proofs.text_law.Goals as goal

pub returns : goal.returns
returns c = text_law
