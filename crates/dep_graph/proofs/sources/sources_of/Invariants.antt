-- The raw writers by the edges so far.
use Rattle.std.proofs.Common.{◌+◌, take}
use Rattle.dep_graph.specs.Graphs.{AreSources}
use Rattle.dep_graph.proofs.sources.sources_of.Given as goal

abbrev pub invariant-loop-edge : goal.invariant-loop-edge
invariant-loop-edge l = AreSources (l.tests + 1) (take l.edge-index l.edges) l.lists.items
