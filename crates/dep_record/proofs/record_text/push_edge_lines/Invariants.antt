use Rattle.std.proofs.Common.{◌≡◌, ◌++◌, map, drop}
use Rattle.dep_record.specs.RecordText.{text_of, edge_line}
use Rattle.dep_record.proofs.record_text.push_edge_lines.Given as goal

-- what was written, and the lines that are left
abbrev pub invariant-loop-edge : goal.invariant-loop-edge
invariant-loop-edge l = l.out ++ text_of (map edge_line (drop l.edge-index l.edges)) ≡ l.fn.out ++ text_of (map edge_line l.edges)
