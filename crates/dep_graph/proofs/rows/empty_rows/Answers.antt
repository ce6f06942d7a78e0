-- Each row that is added has no test in it.
use Rattle.std.proofs.Common.{rules, List, ap, ◌∙◌}
use Rattle.dep_graph.specs.{declared.sets.TestSet.TestSet, Graphs.has_row}
use Rattle.dep_graph.proofs.RowLaws.{no_rows, rows_still_empty}
use Rattle.dep_graph.proofs.rows.empty_rows.Goals as goal

pub loop-init : goal.loop-init
loop-init c = record {
  many = search rules;
  empty = λ u t. ap (λ (xs : List TestSet). has_row xs u t) c.new-rows.ensures.items ∙ no_rows u t;
}

pub loop-preserved : goal.loop-preserved
loop-preserved c = record {
  many = search rules;
  empty = λ u t. ap (λ (xs : List TestSet). has_row xs u t) c.in_ok-push.ensures.items ∙ rows_still_empty c.loop.rows.items c.new.result c.loop.invariant.empty c.new.ensures u t;
}
