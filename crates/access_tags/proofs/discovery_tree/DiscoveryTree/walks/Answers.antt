use Rattle.order_law.specs.Pairing.{no_more}
use Rattle.access_tags.specs.Paths.{IsWalkOf}
use Rattle.access_tags.proofs.Shows.{paired_more}
use Rattle.access_tags.proofs.discovery_tree.DiscoveryTree.walks.Goals as goal

pub loop-spot-init : goal.loop-spot-init
loop-spot-init c ts p m = rw c.new-walks.ensures no_more

pub loop-spot-preserved : goal.loop-spot-preserved
loop-spot-preserved c ts p m = rw c.in_ok-push.ensures.pushed (paired_more (IsWalkOf ts) c.args.spots.now c.loop-spot.spot-index _ c.loop-spot.walks _ c.loop-spot-test.true (c.loop-spot.invariant ts p m) (c.in_ok-walk_to.ensures ts p m))
