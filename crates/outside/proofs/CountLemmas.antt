-- Counts of faults over several calls, for callers of depots and sinks.
use Rattle.std.proofs.Common.{◌≡◌, ◌-◌, ◌^◌, ◌<◌, ◌≤◌, ℕ, inl, inr, arith}
use Rattle.outside.specs.Counts.{Rose}

-- a count that rose late rose
pub rose_later : (a b c : ℕ) → a ≤ b → Rose b c → Rose a c
rose_later a b c le (inl lt) = inl (omega arith)
rose_later a b c le (inr top) = inr top

-- a count that stayed below the greatest u64 didn't rise
pub not_rose : (a b : ℕ) → b ≡ a → a < 2 ^ 64 - 1 → Rose a b → ⊥
not_rose a b same below (inl lt) = omega arith
not_rose a b same below (inr top) = omega arith
