use Rattle.std.proofs.Common.{take}
use Rattle.test_run.specs.Tallies.{IsCount}
use Rattle.test_run.proofs.tallies.Counts.of.Given as goal

-- the outcomes so far
abbrev pub invariant-loop-index : goal.invariant-loop-index
invariant-loop-index l = IsCount (take l.index l.outcomes) l.counts
