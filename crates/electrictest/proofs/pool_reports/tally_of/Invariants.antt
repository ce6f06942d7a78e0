use Rattle.std.proofs.Common.{take}
use Rattle.run_core.specs.Run.{history}
use Rattle.electrictest.specs.Tallies.{IsTallyOf}
use Rattle.electrictest.proofs.pool_reports.tally_of.Given as goal

-- the tests so far
abbrev pub invariant-loop-index : goal.invariant-loop-index
invariant-loop-index l = IsTallyOf l.names (history l.core) (take l.index l.tests) l.tally
