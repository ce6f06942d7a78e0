use Rattle.electrictest.proofs.WholeRuns.{refused_whole}
use Rattle.electrictest.proofs.detections.recorded.Goals as goal

pub returns-in_ok-status-in-Err-clause-refused : goal.returns-in_ok-status-in-Err-clause-refused
returns-in_ok-status-in-Err-clause-refused g c = refused_whole c.args.loaded.now c.in-Err.fault c.in_ok-status-in-Err.status c.in-Err.ensures.refused c.in_ok-status-in-Err.ensures
