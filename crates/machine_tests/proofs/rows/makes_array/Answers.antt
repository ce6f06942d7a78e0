use Rattle.std.proofs.Common.{ap}
use Rattle.jvm_model.specs.Entries.{Entries}
use Rattle.machine_tests.proofs.Ready.{array_ready}
use Rattle.machine_tests.proofs.rows.makes_array.Goals as goal

pub create-requires-clause-row : goal.create-requires-clause-row
create-requires-clause-row c = (c.requires, array_ready c.args.tables.now c.args.memory.now.world _ c.push_int.new.self 3 _ (ap (λ (s : Entries). s.top.stack) c.push_int.ensures))
