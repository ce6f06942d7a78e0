-- So many lists so far, with nothing in them.
use Rattle.std.proofs.Common.{◌≡◌, ℕ, [], length, get_or}
use Rattle.dep_graph.proofs.sources.empty_lists.Given as goal

abbrev pub invariant-loop : goal.invariant-loop
invariant-loop l = record {
  many : length l.lists.items ≡ l.counter;
  empty : (t : ℕ) → get_or l.lists.items t [] ≡ [];
}
