use Rattle.std.proofs.Common.{◌≡◌, ◌+◌, None, length}
use Rattle.dep_record.specs.RecordReading.{pieces, last_of, edges_from}
use Rattle.dep_record.proofs.{EdgeLaws.edges_front, EdgeCount.IsCounted}
use Rattle.dep_record.proofs.reading.edges_at.Given as goal

-- the conflicts so far, which are few, and those that are left
abbrev pub invariant-loop-edges : goal.invariant-loop-edges
invariant-loop-edges l = record {
  same : edges_front l.edges (edges_from l.tests (last_of l.edges) (l.first + length l.edges) (pieces l.left)) ≡ edges_from l.tests None l.first (pieces l.text);
  counted : IsCounted l.tests l.edges;
}

abbrev pub decreases-loop-edges : goal.decreases-loop-edges
decreases-loop-edges l = length l.left
