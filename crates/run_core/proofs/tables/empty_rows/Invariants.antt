use Rattle.std.proofs.Common.{◌≡◌, ℕ, List, length, map, take}
use Rattle.run_core.specs.Kept.{row}
use Rattle.run_core.proofs.tables.empty_rows.Given as goal

abbrev pub invariant-loop-chain : goal.invariant-loop-chain
invariant-loop-chain l = l.rows.items ≡ map (λ (c : List ℕ). row 0 0 (length c)) (take l.chain-index l.chains)
