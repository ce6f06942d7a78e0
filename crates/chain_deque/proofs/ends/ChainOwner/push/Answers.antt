use Rattle.std.proofs.Common.{ap, ◌∙◌}
use Rattle.chain_deque.specs.Ends.{OwnerView}
use Rattle.chain_deque.proofs.Steps.{pushes}
use Rattle.chain_deque.proofs.ends.ChainOwner.push.Goals as goal

pub push_as-requires-clause-pushes : goal.push_as-requires-clause-pushes
push_as-requires-clause-pushes c = pushes _ _ _ c.self.invariant.owns c.self.invariant.live (ap (λ (v : OwnerView). v.seen.made) c.self.view_is ∙ c.requires.alone)
