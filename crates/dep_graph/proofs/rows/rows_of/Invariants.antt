-- The rows of the edges so far.
use Rattle.std.proofs.Common.{◌+◌, take}
use Rattle.dep_graph.specs.Graphs.{AreRows}
use Rattle.dep_graph.proofs.rows.rows_of.Given as goal

abbrev pub invariant-loop-edge : goal.invariant-loop-edge
invariant-loop-edge l = AreRows (l.tests + 1) (take l.edge-index l.edges) l.rows.items
