-- Sums of units that are wrapped on the way.
use Rattle.std.proofs.Common.{◌≡◌, ℕ, ◌+◌, ◌*◌, ◌%◌, ◌^◌, ◌<◌, List, [], ◌∷◌, ap, sym, ◌∙◌, arith}
use Rattle.std.proofs.Math.Nat.{mod-eq_of_lt}
use Rattle.std.specs.Int.{w32, int_wrap, cast_signed}
use Rattle.jvm_model.specs.NativesString.{hash_sum, hash_of}

same_step : (a b u : ℕ) → a % 2 ^ 32 ≡ b % 2 ^ 32 → (a * 31 + u) % 2 ^ 32 ≡ (b * 31 + u) % 2 ^ 32
same_step a b u e = omega arith

same_sum : (a b : ℕ) (us : List ℕ) → a % 2 ^ 32 ≡ b % 2 ^ 32 → hash_sum a us % 2 ^ 32 ≡ hash_sum b us % 2 ^ 32
same_sum a b [] e = e
same_sum a b (u ∷ us) e = same_sum (a * 31 + u) (b * 31 + u) us (same_step a b u e)

-- one unit more, wrapped
pub wrapped_step : (h u : ℕ) (us : List ℕ) → hash_sum ((h * 31 % 2 ^ 32 + u) % 2 ^ 32) us % 2 ^ 32 ≡ hash_sum (h * 31 + u) us % 2 ^ 32
wrapped_step h u us = same_sum ((h * 31 % 2 ^ 32 + u) % 2 ^ 32) (h * 31 + u) us (omega arith)

-- the sum of all units is what is wrapped in the end
pub hashed : (h : ℕ) (us : List ℕ) → h < 2 ^ 32 → h % 2 ^ 32 ≡ hash_sum 0 us % 2 ^ 32 → cast_signed w32 h ≡ hash_of us
unfolding hash_of int_wrap
hashed h us lt e = ap (cast_signed w32) (sym (mod-eq_of_lt lt) ∙ e)
