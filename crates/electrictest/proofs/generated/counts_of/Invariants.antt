use Rattle.std.proofs.Common.{◌≡◌, take, count_by}
use Rattle.generated_law.specs.GeneratedRecord.{is_raw, is_waw, is_war}
use Rattle.electrictest.proofs.generated.counts_of.Given as goal

-- the counts so far
abbrev pub invariant-loop-edge : goal.invariant-loop-edge
invariant-loop-edge l = record {
  raw : l.raw ≡ count_by is_raw (take l.edge-index l.edges);
  waw : l.waw ≡ count_by is_waw (take l.edge-index l.edges);
  war : l.war ≡ count_by is_war (take l.edge-index l.edges);
}
