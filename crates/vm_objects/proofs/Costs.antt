-- Sums of costs that stay at a greatest number.
use Rattle.std.proofs.Common.{◌≡◌, ◌≤◌, ℕ, zero, suc, ◌+◌, ◌*◌, ap, ◌∙◌, arith, ⊎_elim}
use Rattle.std.proofs.{Math.Nat.suc-mul, lemmas.Bool.cases_lt}
use Rattle.std.specs.Prelude.{min, List, ◌∷◌}
use Rattle.jvm_model.specs.RowsCreate.{nest_sum}

least_few : (s c : ℕ) → s ≤ c → min s c ≡ s
least_few s c h = omega arith

least_many : (s c : ℕ) → c ≤ s → min s c ≡ c
least_many s c h = omega arith

-- x stands for a product
bounded : (x own m c : ℕ) → c ≤ m → min (min (min x m + own) m) c ≡ min (own + x) c
bounded x own m c h = omega arith

-- both products are above the bound
both_above : (x y own c : ℕ) → c ≤ x → c ≤ y → min (own + x) c ≡ min (own + y) c
both_above x y own c g h = omega arith

product_above : (n s c : ℕ) → c ≤ s → c ≤ suc n * s
product_above n s c h = let e = suc-mul n s in omega arith

products : (n s own c : ℕ) → min (own + n * min s c) c ≡ min (own + n * s) c
products zero s own c = let e : 0 * min s c ≡ 0 * s = omega arith in ap (λ x. min (own + x) c) e
products (suc n) s own c = ⊎_elim
    (λ few. ap (λ x. min (own + suc n * x) c) (let h : s ≤ c = omega arith in least_few s c h))
    (λ many. ap (λ x. min (own + suc n * x) c) (least_many s c many) ∙ both_above (suc n * c) (suc n * s) own c (let h : c ≤ c = omega arith in product_above n c c h) (product_above n s c many))
    (cases_lt s c)

-- the cost of an array of arrays by that of one of its elements
pub one_more : (n k : ℕ) (ks : List ℕ) (m c : ℕ) → c ≤ m → min (min (min (n * min (nest_sum k ks) c) m + (1 + n)) m) c ≡ min (nest_sum n (k ∷ ks)) c
one_more n k ks m c h = bounded (n * min (nest_sum k ks) c) (1 + n) m c h ∙ products n (nest_sum k ks) (1 + n) c
