use Rattle.chain_deque.proofs.Steps.{takes}
use Rattle.chain_deque.proofs.ends.Thief.steal.Goals as goal

pub steal_as-requires-clause-takes : goal.steal_as-requires-clause-takes
steal_as-requires-clause-takes g c = takes _ _ c.loop.invariant.1.live
