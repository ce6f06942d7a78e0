use Rattle.generated_law.proofs.Typed.{typed_law}
use Rattle.generated_law.proofs.typed_law.Goals as goal

pub returns : goal.returns
returns c = typed_law
