use Rattle.std.proofs.Common.{length}
use Rattle.type_frames.proofs.assign.+element_fits.Given as goal

abbrev pub decreases-element_fits : goal.decreases-element_fits
decreases-element_fits l = length l.a.now
