use Rattle.type_frames.proofs.AssignLaws.{reference_law}
use Rattle.type_frames.proofs.laws.reference_law.Goals as goal

pub returns : goal.returns
returns c = reference_law
