use Rattle.std.proofs.Common.{◌<◌, List, take}
use Rattle.jvm_model.specs.declared.values.Touch.{Touch}
use Rattle.access_tags.specs.{ParentEdges.HasParents, Paths.HaveRowsWalks}
use Rattle.access_tags.proofs.discovery_tree.DiscoveryTree.walks_of_rows.Given as goal

abbrev pub invariant-loop-row : goal.invariant-loop-row
invariant-loop-row l = (ts : List Touch) → 0 < l.test → HasParents l.test ts l.self.met → HaveRowsWalks ts (take l.row-index l.rows) l.walks
