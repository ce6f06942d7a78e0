use Rattle.generated_law.proofs.FilesRead.{read_law}
use Rattle.generated_law.proofs.read_law.Goals as goal

pub returns : goal.returns
returns c = read_law
