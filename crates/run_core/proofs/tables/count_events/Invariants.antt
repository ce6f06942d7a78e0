use Rattle.std.proofs.Common.{◌≡◌, take}
use Rattle.run_core.specs.Run.{most_events}
use Rattle.run_core.proofs.tables.count_events.Given as goal

abbrev pub invariant-loop-chain : goal.invariant-loop-chain
invariant-loop-chain l = l.events ≡ most_events (take l.chain-index l.chains)
