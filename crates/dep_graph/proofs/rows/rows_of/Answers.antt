-- Each edge is the next one of an ordered record.
use Rattle.std.proofs.Common.{arith, ◌+◌}
use Rattle.dep_graph.proofs.RowLaws.{next_up, rows_begun, rows_next}
use Rattle.dep_graph.proofs.rows.rows_of.Goals as goal

pub loop-edge-init : goal.loop-edge-init
loop-edge-init c = rows_begun (c.args.tests + 1) c.in_ok-rows.rows.items c.in_ok-rows.ensures.0 c.in_ok-rows.ensures.1

pub loop-edge-preserved : goal.loop-edge-preserved
loop-edge-preserved c = rows_next c.args.tests c.args.edges.now c.requires.ordered c.loop-edge.edge-index c.edge-item.result c.loop-edge-test.true c.edge-item.is (c.args.tests + 1) c.loop-edge.rows.items c.add_edge.new.rows.items c.loop-edge.invariant c.add_edge.ensures.many c.add_edge.ensures.added

pub add_edge-requires-clause-up : goal.add_edge-requires-clause-up
add_edge-requires-clause-up c = (next_up c.args.tests c.args.edges.now c.requires.ordered c.loop-edge.edge-index c.edge-item.result c.loop-edge-test.true c.edge-item.is).1

pub add_edge-requires-clause-within : goal.add_edge-requires-clause-within
add_edge-requires-clause-within c = let p = (next_up c.args.tests c.args.edges.now c.requires.ordered c.loop-edge.edge-index c.edge-item.result c.loop-edge-test.true c.edge-item.is).2 in omega (arith, c.loop-edge.invariant.many)
