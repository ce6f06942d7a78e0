use Rattle.cell_region.proofs.Places.{view_length}
use Rattle.cell_region.proofs.region.Region.len.Goals as goal

pub returns : goal.returns
returns g c = view_length _ _ _ c.self.invariant.0 c.self.invariant.1 c.self.view_is
