use Rattle.type_frames.proofs.Started.{started_law}
use Rattle.type_frames.proofs.laws.started_law.Goals as goal

pub returns : goal.returns
returns c = started_law
