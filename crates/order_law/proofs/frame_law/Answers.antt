use Rattle.order_law.proofs.FrameLaw.{frame_law}
use Rattle.order_law.proofs.frame_law.Goals as goal

pub returns : goal.returns
returns c = frame_law
