use Rattle.std.proofs.Common.{length}
use Rattle.class_init.proofs.finishing.+look.Given as goal

abbrev pub decreases-look : goal.decreases-look
decreases-look g l = length l.parts.now
