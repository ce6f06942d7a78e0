use Rattle.generated_law.proofs.ClassBytes.{class_law}
use Rattle.generated_law.proofs.class_law.Goals as goal

pub returns : goal.returns
returns c = class_law
