use Rattle.std.proofs.Common.{◌≡◌, ◌+◌, ◌-◌, ◌<◌, ◌≤◌, ◌++◌, All}
use Rattle.std.specs.List.{range_with_len}
use Rattle.electrictest.proofs.selections.all_tests.Given as goal

-- the tests so far and those behind them
abbrev pub invariant-loop-index : goal.invariant-loop-index
invariant-loop-index l = record {
  all : l.tests ++ range_with_len (l.index + 1) (l.count - l.index) ≡ range_with_len 1 l.count;
  each : All (λ t. (0 < t) × (t ≤ l.count)) l.tests;
}
