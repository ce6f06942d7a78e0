use Rattle.electrictest.proofs.QuietLaws.{sink_quiet}
use Rattle.electrictest.proofs.laws.quiet_sink_law.Goals as goal

pub returns : goal.returns
returns c = sink_quiet
