use Rattle.std.proofs.Common.{◌<◌, List, take}
use Rattle.jvm_model.specs.declared.values.Touch.{Touch}
use Rattle.access_tags.specs.{ParentEdges.HasParents, Paths.AreWalks}
use Rattle.access_tags.proofs.discovery_tree.DiscoveryTree.walks.Given as goal

abbrev pub invariant-loop-spot : goal.invariant-loop-spot
invariant-loop-spot l = (ts : List Touch) → 0 < l.test → HasParents l.test ts l.self.met → AreWalks ts (take l.spot-index l.spots) l.walks
