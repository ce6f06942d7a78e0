use Rattle.chain_deque.proofs.Steps.{takes, empties}
use Rattle.chain_deque.proofs.ends.ChainOwner.pop.Goals as goal

pub pop_as-requires-clause-fifo : goal.pop_as-requires-clause-fifo
pop_as-requires-clause-fifo c = λ _. takes _ _ c.self.invariant.live

pub pop_as-requires-clause-empty : goal.pop_as-requires-clause-empty
pop_as-requires-clause-empty c = empties _ _
