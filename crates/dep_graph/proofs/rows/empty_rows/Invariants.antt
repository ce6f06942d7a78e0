-- So many rows so far, with no test in them.
use Rattle.std.proofs.Common.{◌≡◌, ℕ, false, length}
use Rattle.dep_graph.specs.Graphs.{has_row}
use Rattle.dep_graph.proofs.rows.empty_rows.Given as goal

abbrev pub invariant-loop : goal.invariant-loop
invariant-loop l = record {
  many : length l.rows.items ≡ l.counter;
  empty : (u t : ℕ) → has_row l.rows.items u t ≡ false;
}
