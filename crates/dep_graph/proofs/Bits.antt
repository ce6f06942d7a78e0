-- Sets of tests by their words.
use Rattle.std.proofs.Common.{◌≡◌, ℕ, zero, suc, ◌*◌, ◌/◌, ◌%◌, ◌^◌, ◌<◌, ◌≤◌, max, Bool, false, ◌||◌, nat_eq, List, [], length, get_or, set, refl, sym, ◌∙◌, ap, inl, inr, arith}
use Rattle.std.specs.{Int.bit_at, Int.w64, Int.Bits.bit_or, Int.Bits.or_zero_r}
use Rattle.std.proofs.lemmas.Nat.Bits.{bit_at-zero, bit_at-lt, bit_at_or, bit_at_set_same, bit_at_set_other}
use Rattle.std.proofs.lemmas.Bool.{cases_eq, cases_lt, eq-eqb, ne_eqb, or_left}
use Rattle.std.proofs.lemmas.List.{get_or-set_same, get_or-set_other}

pub none_held : (u : ℕ) → nat_eq (bit_at 0 u) 1 ≡ false
none_held u = rw bit_at-zero refl

greater_bit : (x y : ℕ) → x < 2 → y < 2 → nat_eq (max x y) 1 ≡ (nat_eq x 1 || nat_eq y 1)
greater_bit zero zero a b = refl
greater_bit zero (suc zero) a b = refl
greater_bit (suc zero) zero a b = refl
greater_bit (suc zero) (suc zero) a b = refl
greater_bit x (suc (suc y)) a b = absurd (omega arith)
greater_bit (suc (suc x)) y a b = absurd (omega arith)

pub either_held : (x y i : ℕ) → nat_eq (bit_at (bit_or x y) i) 1 ≡ (nat_eq (bit_at x i) 1 || nat_eq (bit_at y i) 1)
either_held x y i = ap (λ (b : ℕ). nat_eq b 1) (bit_at_or x y i) ∙ greater_bit (bit_at x i) (bit_at y i) (bit_at-lt x i) (bit_at-lt y i)

-- what words say that are joined
pub joined_held : (new old other : List ℕ) → ((k : ℕ) → k < 17 → get_or new k 0 ≡ bit_or (get_or old k 0) (get_or other k 0)) →
    ((k : ℕ) → 17 ≤ k → get_or other k 0 ≡ 0) → ((k : ℕ) → 17 ≤ k → get_or new k 0 ≡ get_or old k 0) → (k i : ℕ) →
    nat_eq (bit_at (get_or new k 0) i) 1 ≡ (nat_eq (bit_at (get_or old k 0) i) 1 || nat_eq (bit_at (get_or other k 0) i) 1)
joined_held new old other a b c k i =
    let all : get_or new k 0 ≡ bit_or (get_or old k 0) (get_or other k 0) =
    elim (cases_lt k 17) [ inl h ↦ a k h | inr h ↦ c k h ∙ sym (or_zero_r (get_or old k 0)) ∙ ap (λ (x : ℕ). bit_or (get_or old k 0) x) (sym (b k h)) ] in
    ap (λ (x : ℕ). nat_eq (bit_at x i) 1) all ∙ either_held (get_or old k 0) (get_or other k 0) i

pub empty_held : (k i : ℕ) → nat_eq (bit_at (get_or [] k 0) i) 1 ≡ false
empty_held zero i = none_held i
empty_held (suc k) i = none_held i

-- a word with one more bit
abbrev pub with_bit : List ℕ → ℕ → ℕ
with_bit ws t = bit_or (get_or ws (t / 64) 0) (1 * 2 ^ (t % 64) % 2 ^ 64)

pub one_more_held : (ws : List ℕ) (t u : ℕ) → t / 64 < length ws → nat_eq (bit_at (get_or (set ws (t / 64) (with_bit ws t)) (u / 64) 0) (u % 64)) 1 ≡ (nat_eq u t || nat_eq (bit_at (get_or ws (u / 64) 0) (u % 64)) 1)
one_more_held ws t u h = elim (cases_eq (u / 64) (t / 64)) [
  | inl e ↦
      let g : get_or (set ws (t / 64) (with_bit ws t)) (u / 64) 0 ≡ with_bit ws t = ap (λ (x : ℕ). get_or (set ws (t / 64) (with_bit ws t)) x 0) e ∙ get_or-set_same ws (t / 64) (with_bit ws t) 0 h in
      let k : t % 64 < 64 = omega arith in
      elim (cases_eq (u % 64) (t % 64)) [
        | inl f ↦
            let same : u ≡ t = omega arith in
            ap (λ (x : ℕ). nat_eq (bit_at x (u % 64)) 1) g
            ∙ ap (λ (x : ℕ). nat_eq x 1) (ap (λ (x : ℕ). bit_at (with_bit ws t) x) f ∙ bit_at_set_same w64 (get_or ws (t / 64) 0) (t % 64) k)
            ∙ sym (or_left (nat_eq u t) (nat_eq (bit_at (get_or ws (u / 64) 0) (u % 64)) 1) (eq-eqb u t same))
        | inr f ↦
            ap (λ (x : ℕ). nat_eq (bit_at x (u % 64)) 1) g
            ∙ ap (λ (x : ℕ). nat_eq x 1) (bit_at_set_other w64 (get_or ws (t / 64) 0) (t % 64) k (u % 64) f ∙ ap (λ (x : ℕ). bit_at (get_or ws x 0) (u % 64)) (sym e))
            ∙ sym (ap (λ (b : Bool). b || nat_eq (bit_at (get_or ws (u / 64) 0) (u % 64)) 1) (ne_eqb u t (λ s. f (ap (λ (x : ℕ). x % 64) s))))
      ]
  | inr e ↦
      ap (λ (x : ℕ). nat_eq (bit_at x (u % 64)) 1) (get_or-set_other ws (t / 64) (u / 64) (with_bit ws t) 0 e)
      ∙ sym (ap (λ (b : Bool). b || nat_eq (bit_at (get_or ws (u / 64) 0) (u % 64)) 1) (ne_eqb u t (λ s. e (ap (λ (x : ℕ). x / 64) s))))
]
