use Rattle.type_frames.proofs.AssignLaws.{itself_law}
use Rattle.type_frames.proofs.laws.itself_law.Goals as goal

pub returns : goal.returns
returns c = itself_law
