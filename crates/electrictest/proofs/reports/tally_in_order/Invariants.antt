use Rattle.std.proofs.Common.{take}
use Rattle.test_run.specs.Tallies.{IsTally}
use Rattle.electrictest.specs.Wholes.{numbered}
use Rattle.electrictest.proofs.reports.tally_in_order.Given as goal

-- the tests so far
abbrev pub invariant-loop-index : goal.invariant-loop-index
invariant-loop-index l = IsTally l.names (numbered 1 (take l.index l.outcomes)) l.tally
