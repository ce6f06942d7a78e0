-- Numbers in a row.
use Rattle.std.proofs.Common.{◌≡◌, ◌∷◌, [], ◌++◌, ◌+◌, ℕ, zero, suc, ap, arith, add-one}
use Rattle.std.specs.List.{range_with_len}

pub range_suc : (a n j : ℕ) → a + n ≡ j → range_with_len a (suc n) ≡ range_with_len a n ++ (j ∷ [])
range_suc a zero j e = ap (λ (x : ℕ). x ∷ []) (omega arith)
range_suc a (suc n) j e = ap (λ xs. a ∷ xs) (range_suc (a + 1) n j (omega arith))

-- one more number
pub range_more : (a n j : ℕ) → a + n ≡ j → range_with_len a (n + 1) ≡ range_with_len a n ++ (j ∷ [])
range_more a n j e = rw add-one (range_suc a n j e)
