use Rattle.chain_deque.proofs.Steps.{learns}
use Rattle.chain_deque.proofs.ends.ChainOwner.left.Goals as goal

pub len_as-requires : goal.len_as-requires
len_as-requires c = learns _ _ c.self.invariant.owns c.self.invariant.live
