use Rattle.std.proofs.Common.{◌≡◌, ◌≤◌, ◌++◌, List, length, map, reverse}
use Rattle.order_law.specs.declared.edges.EdgeKind.TheVariants as kinds
use Rattle.access_tags.specs.declared.conflict.{Conflict.Conflict, LocationKey.LocationKey}
use Rattle.access_tags.specs.{Tag.conflict, Cells.chain, Counted.HaveCounted}
use Rattle.access_tags.proofs.cells.count_readers.Given as goal

abbrev pub invariant-loop-at : goal.invariant-loop-at
invariant-loop-at l = (l.at ≤ length l.readers) × ((xs : List (Conflict LocationKey)) × HaveCounted l.fn.table l.table xs
    × (xs ++ map (conflict kinds.War l.place) (chain (reverse l.readers) l.at) ≡ map (conflict kinds.War l.place) (chain (reverse l.readers) l.first)))

abbrev pub decreases-loop-at : goal.decreases-loop-at
decreases-loop-at l = l.at
