use Rattle.type_frames.proofs.AssignLaws.{transitive_law}
use Rattle.type_frames.proofs.laws.transitive_law.Goals as goal

pub returns : goal.returns
returns c = transitive_law
