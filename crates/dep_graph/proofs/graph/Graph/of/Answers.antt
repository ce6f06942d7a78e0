-- The form of the record gives what the rows and lists ask.
use Rattle.std.proofs.Common.{List, sym, subst, ◌∙◌, ◌+◌}
use Rattle.order_law.specs.declared.edges.Edge.{Edge}
use Rattle.dep_graph.specs.Graphs.{AreRows, AreSources}
use Rattle.dep_graph.proofs.Form.{few_at, ordered_at}
use Rattle.dep_graph.proofs.graph.Graph.of.Goals as goal

pub rows_of-requires-clause-few : goal.rows_of-requires-clause-few
rows_of-requires-clause-few c = few_at c.args.r.now.units c.args.r.now.edges c.args.r.now.form c.len-tests.result c.len-tests.ensures

pub rows_of-requires-clause-ordered : goal.rows_of-requires-clause-ordered
rows_of-requires-clause-ordered c = ordered_at c.args.r.now.units c.args.r.now.edges c.args.r.now.form c.len-tests.result c.as_slice.result.now c.len-tests.ensures c.as_slice.ensures

pub sources_of-requires-clause-few : goal.sources_of-requires-clause-few
sources_of-requires-clause-few c = few_at c.args.r.now.units c.args.r.now.edges c.args.r.now.form c.len-tests.result c.len-tests.ensures

pub sources_of-requires-clause-ordered : goal.sources_of-requires-clause-ordered
sources_of-requires-clause-ordered c = ordered_at c.args.r.now.units c.args.r.now.edges c.args.r.now.form c.len-tests.result c.as_slice-2.result.now c.len-tests.ensures c.as_slice-2.ensures

pub invariant_of-result : goal.invariant_of-result
invariant_of-result c = record {
  tests = c.len-tests.result;
  few = few_at c.args.r.now.units c.args.r.now.edges c.args.r.now.form c.len-tests.result c.len-tests.ensures;
  go_up = (ordered_at c.args.r.now.units c.args.r.now.edges c.args.r.now.form c.len-tests.result c.of.result.value c.len-tests.ensures c.of.ensures).go_up;
  rows_are = subst (λ (R : List Edge). AreRows (c.len-tests.result + 1) R c.in_ok-rows.rows.items) (c.as_slice.ensures ∙ sym c.of.ensures) c.in_ok-rows.ensures;
  sources_are = subst (λ (R : List Edge). AreSources (c.len-tests.result + 1) R c.in_ok-sources.sources.items) (c.as_slice-2.ensures ∙ sym c.of.ensures) c.in_ok-sources.ensures;
}
