use Rattle.std.proofs.Common.{◌≡◌, ◌++◌, map, drop}
use Rattle.serde_json.specs.View.{view}
use Rattle.dep_record.specs.DepsJson.{all_edges}
use Rattle.dep_record.proofs.report_json.edge_values.Given as goal

-- the conflicts so far, and those that are left
abbrev pub invariant-loop-index : goal.invariant-loop-index
invariant-loop-index l = map view l.values.items ++ all_edges l.names (drop l.index l.edges) (drop l.index l.shown) ≡ all_edges l.names l.edges l.shown
