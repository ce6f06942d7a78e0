use Rattle.std.proofs.Common.{take}
use Rattle.std.specs.List.{zip}
use Rattle.cone_run.specs.ConesText.{outcomes}
use Rattle.test_run.specs.Tallies.{IsTally}
use Rattle.cone_run.proofs.cone_report.tally_of.Given as goal

-- the tests so far
abbrev pub invariant-loop-index : goal.invariant-loop-index
invariant-loop-index l = IsTally l.names (zip (take l.index l.tests) (outcomes (take l.index l.pieces))) l.tally
