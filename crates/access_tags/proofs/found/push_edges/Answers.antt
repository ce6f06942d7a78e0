use Rattle.order_law.specs.OwnRecord.{owner_in}
use Rattle.access_tags.specs.Rows.{edge_by}
use Rattle.access_tags.proofs.{Finding.printed_push, Placed.mapped_on}
use Rattle.access_tags.proofs.found.push_edges.Goals as goal

pub loop-row-preserved : goal.loop-row-preserved
loop-row-preserved c = record {
  edges = rw c.in_ok-push.ensures.pushed (rw c.loop-row.invariant.edges (rw c.in_ok-edge_of.ensures.edge
      (mapped_on (edge_by c.args.p.now (owner_in c.args.made.now) c.args.names.now c.args.test) c.args.edges.now c.args.rows.now c.loop-row.row-index c.row-item.result c.row-item.result c.loop-row-test.true c.row-item.is)));
  form = λ h. printed_push c.loop-row.edges c.push.new.self _ c.in_ok-push.ensures.pushed c.in_ok-edge_of.ensures.form (c.loop-row.invariant.form h);
}

pub returns-clause-form : goal.returns-clause-form
returns-clause-form c = c.loop-row.invariant.form
