-- The words before this one are joined, and the others as before.
use Rattle.std.proofs.Common.{◌≡◌, ℕ, ◌<◌, ◌≤◌, get_or}
use Rattle.std.specs.Int.Bits.{bit_or}
use Rattle.dep_graph.proofs.sets.TestSet.join.Given as goal

abbrev pub invariant-loop-i : goal.invariant-loop-i
invariant-loop-i l = record {
  joined : (k : ℕ) → k < l.i → get_or l.self.words k 0 ≡ bit_or (get_or l.fn.self.words k 0) (get_or l.other.words k 0);
  beyond : (k : ℕ) → 17 ≤ k → get_or l.other.words k 0 ≡ 0;
  rest : (k : ℕ) → l.i ≤ k → get_or l.self.words k 0 ≡ get_or l.fn.self.words k 0;
}
