use Rattle.std.proofs.Common.{◌∷◌, [], map, ◌∙◌}
use Rattle.dep_record.specs.RecordText.{said, text_of, head_lines, suite_lines, reach_lines, numbered, units_line, edge_line, end_line, lines_of}
use Rattle.dep_record.proofs.AppendLaws.{written, six_texts}
use Rattle.dep_record.proofs.record_text.write_record.Goals as goal

pub returns : goal.returns
unfolding lines_of
returns c =
    let k = c.args.kept.now in
    let units = rw c.as_slice.ensures at c.in_ok-push_units_lines.ensures in
    let edges = rw c.as_slice-2.ensures at c.in_ok-push_edge_lines.ensures in
    written _ _ _ _ _ _ _ (text_of (head_lines (said k))) (text_of (suite_lines k.more)) (text_of (numbered units_line 1 k.units)) (text_of (reach_lines k.more)) (text_of (map edge_line k.edges)) (text_of (end_line ∷ []))
    c.in_ok-out.ensures c.in_ok-push_head.ensures c.in_ok-push_suite_lines.ensures units c.in_ok-push_more_lines.ensures edges c.in_ok-extend_from_slice.ensures.pushed
    ∙ six_texts (head_lines (said k)) (suite_lines k.more) (numbered units_line 1 k.units) (reach_lines k.more) (map edge_line k.edges) (end_line ∷ [])
