use Rattle.quiet_init.proofs.Finished.{openings_of}
use Rattle.quiet_init.proofs.program.parts_by.Goals as goal

pub returns-clause-openings : goal.returns-clause-openings
returns-clause-openings c = openings_of c.args.p.now c.into_statics.result.items c.in_ok-memory.memory c.in_ok-memory.ensures c.into_statics.ensures
