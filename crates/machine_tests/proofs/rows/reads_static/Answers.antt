use Rattle.machine_tests.proofs.Ready.{static_ready}
use Rattle.machine_tests.proofs.rows.reads_static.Goals as goal

pub statics-requires-clause-row : goal.statics-requires-clause-row
statics-requires-clause-row c = (c.requires.of, static_ready c.args.tables.now c.args.memory.now.world c.args.field _ c.requires.world c.requires.field c.requires.trivial)
