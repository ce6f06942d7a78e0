use Rattle.chain_deque.proofs.Steps.{forks}
use Rattle.chain_deque.proofs.ends.ChainOwner.thief.Goals as goal

pub another-pass-requires : goal.another-pass-requires
another-pass-requires c = forks _ _ c.self.invariant.owns c.self.invariant.live
