-- Sums over lists, and a list that changes at one place.
use Rattle.std.proofs.Common.{◌≡◌, ℕ, zero, suc, ◌+◌, ◌<◌, ◌≤◌, cond, ◌==◌, nat_lt, List, [], ◌∷◌, ◌++◌, length, set, get_or, sum_by, sym, refl, ap, All, arith}
use Rattle.std.proofs.lemmas.{Bool.Decides.nat_tests, List.Sums.sum_by-cons, List.Sums.sum_by-append, List.Sums.sum_by-set, List.Sums.get_or-le-sum_by}
use mathlib.Core.Option.{some, some-injective, some-ne-none}
use lib.ListN.{get_elem?}
use Rattle.chain_deque.specs.Rule.{times}

pub at_lt : {A : Type 0} (l : List A) (j : ℕ) (a : A) → get_elem? l j ≡ some a → j < length l
at_lt [] j a e = absurd (some-ne-none a (sym e))
at_lt (x ∷ xs) zero a e = omega arith
at_lt (x ∷ xs) (suc j) a e = let h = at_lt xs j a e in omega arith

-- what stands at a place stands there whatever the default is
at_or : {A : Type 0} (l : List A) (j : ℕ) (a : A) → get_elem? l j ≡ some a → get_or l j a ≡ a
at_or [] j a e = refl
at_or (x ∷ xs) zero a e = some-injective x a e
at_or (x ∷ xs) (suc j) a e = at_or xs j a e

pub total_set : {X : Type 0} (f : X → ℕ) (l : List X) (i : ℕ) (a b : X) → get_elem? l i ≡ some a → sum_by f (set l i b) + f a ≡ sum_by f l + f b
total_set f l i a b e = omega (arith, sum_by-set f l i b a (at_lt l i a e), ap f (at_or l i a e))

pub total_at : {X : Type 0} (f : X → ℕ) (l : List X) (i : ℕ) (a : X) → get_elem? l i ≡ some a → f a ≤ sum_by f l
total_at f l i a e = omega (arith, get_or-le-sum_by f l i a (at_lt l i a e), ap f (at_or l i a e))

pub total_none : {X : Type 0} (f g : X → ℕ) (l : List X) → ((j : ℕ) (u : X) → get_elem? l j ≡ some u → g u ≡ 0 → f u ≡ 0) → sum_by g l ≡ 0 → sum_by f l ≡ 0
total_none f g [] each e = refl
total_none f g (x ∷ xs) each e =
    let none = sum_by-cons g x xs in
    let here : f x ≡ 0 = each 0 x refl (omega (arith, none, e)) in
    let rest : sum_by f xs ≡ 0 = total_none f g xs (λ j u at none. each (suc j) u at none) (omega (arith, none, e)) in
    omega (arith, sum_by-cons f x xs, here, rest)

pub times_append : (x : ℕ) (xs ys : List ℕ) → times x (xs ++ ys) ≡ times x xs + times x ys
times_append x xs ys = sum_by-append (λ (y : ℕ). cond (y == x) 1 0) xs ys

pub once_more : (x k : ℕ) → cond (nat_lt x (k + 1)) 1 0 ≡ cond (nat_lt x k) 1 0 + cond (k == x) 1 0
once_more x k = grind (arith, nat_tests)

below_here : (k y n : ℕ) → cond (y == y) 1 0 + n ≤ cond (nat_lt y k) 1 0 → y < k
below_here k y n h = grind (arith, nat_tests)

-- a number that stands in the list stands there at least once
pub below : (k : ℕ) (xs : List ℕ) → ((x : ℕ) → times x xs ≤ cond (nat_lt x k) 1 0) → All (λ x. x < k) xs
below k [] few i d h = absurd (omega arith)
below k (y ∷ ys) few zero d h = below_here k y (times y ys) (omega (arith, few y, sum_by-cons (λ (z : ℕ). cond (z == y) 1 0) y ys))
below k (y ∷ ys) few (suc i) d h = below k ys (λ x. omega (arith, few x, sum_by-cons (λ (z : ℕ). cond (z == x) 1 0) y ys)) i d (omega arith)
