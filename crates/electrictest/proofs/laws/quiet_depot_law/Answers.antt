use Rattle.electrictest.proofs.QuietLaws.{depot_quiet}
use Rattle.electrictest.proofs.laws.quiet_depot_law.Goals as goal

pub returns : goal.returns
returns c = depot_quiet
