use Rattle.chain_deque.proofs.Steps.{merges}
use Rattle.chain_deque.proofs.ends.ChainOwner.rejoin.Goals as goal

pub absorb-requires-clause-rule : goal.absorb-requires-clause-rule
absorb-requires-clause-rule c = merges _ _ _ _ c.self.invariant.owns c.self.invariant.live c.thief.invariant.live
