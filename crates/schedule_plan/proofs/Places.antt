-- Places of lists of numbers.
use Rattle.std.proofs.Common.{◌≡◌, ℕ, zero, suc, ◌<◌, ◌≤◌, List, [], ◌∷◌, length, get_or, refl, sym, ap, inl, inr, arith}
use Rattle.std.proofs.lemmas.Bool.{cases_lt, cases_eq}
use Rattle.order_law.specs.{Conflicts.Member, Plan.Ascending}

pub member_get : (l : List ℕ) (k : ℕ) → k < length l → Member (get_or l k 0) l
member_get [] k h = absurd (omega arith)
member_get (y ∷ l) zero h = inl refl
member_get (y ∷ l) (suc k) h = inr (member_get l k (omega arith))

pub place_of : (l : List ℕ) (t : ℕ) → Member t l → (k : ℕ) × (k < length l) × (get_or l k 0 ≡ t)
place_of [] t m = absurd m
place_of (y ∷ l) t m = elim m [ inl e ↦ (0, omega arith, sym e) | inr j ↦ let p = place_of l t j in let a : p.0 < length l = p.1 in (suc p.0, omega arith, p.2) ]

pub rises : (l : List ℕ) → Ascending l → (i j : ℕ) → i < j → j < length l → get_or l i 0 < get_or l j 0
rises [] a i j lt h = absurd (omega arith)
rises (y ∷ l) a zero zero lt h = absurd (omega arith)
rises (y ∷ l) a zero (suc j) lt h = a.0 (get_or l j 0) (member_get l j (omega arith))
rises (y ∷ l) a (suc i) zero lt h = absurd (omega arith)
rises (y ∷ l) a (suc i) (suc j) lt h = rises l a.1 i j (omega arith) (omega arith)

pub stands_before : (l : List ℕ) → Ascending l → (i j : ℕ) → i < length l → j < length l → get_or l i 0 < get_or l j 0 → i < j
stands_before l a i j h k lt = elim (cases_lt i j) [
  | inl x ↦ x
  | inr x ↦ elim (cases_eq j i) [
    | inl e ↦ let s = ap (λ (z : ℕ). get_or l z 0) e in absurd (omega arith)
    | inr n ↦ let s = rises l a j i (omega arith) h in absurd (omega arith)
  ]
]

pub same_place : (l : List ℕ) → Ascending l → (i j : ℕ) → i < length l → j < length l → get_or l i 0 ≡ get_or l j 0 → i ≡ j
same_place l a i j h k e = elim (cases_lt i j) [
  | inl x ↦ let s = rises l a i j x k in absurd (omega arith)
  | inr x ↦ elim (cases_lt j i) [ inl y ↦ let s = rises l a j i y h in absurd (omega arith) | inr y ↦ omega arith ]
]

-- where a loop ends
pub ended : (i n : ℕ) → i ≤ n → n ≤ i → i ≡ n
ended i n h k = omega arith
