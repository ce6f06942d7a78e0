-- The numbers of marked classes, one class after another.
use Rattle.std.proofs.Common.{◌≡◌, ◌⊎◌, ◌+◌, ◌-◌, ◌<◌, ◌≤◌, ◌↔◌, ℕ, Bool, true, false, List, [], ◌∷◌, ◌++◌, get_or, refl, sym, ◌∙◌, ap, subst, arith, nat_lt, inl, inr}
use Rattle.std.proofs.lemmas.Bool.{cases_lt, lt-ltb, and_parts, and_from}
use Rattle.jvm_model.specs.Builtin.{builtin_count}
use Rattle.order_law.specs.{Conflicts.Member, RecordForm.numbers_ascend}

pub ascend_more : (xs : List ℕ) (n : ℕ) → numbers_ascend xs ≡ true → ((j : ℕ) → Member j xs → j < n) → numbers_ascend (xs ++ n ∷ []) ≡ true
ascend_more [] n a b = refl
ascend_more (x ∷ []) n a b = rw (lt-ltb x n (b x (inl refl))) refl
ascend_more (x ∷ y ∷ xs) n a b = let r = and_parts (nat_lt x y) (numbers_ascend (y ∷ xs)) a in and_from (nat_lt x y) (numbers_ascend (y ∷ (xs ++ n ∷ []))) r.0 (ascend_more (y ∷ xs) n r.1 (λ j m. b j (inr m)))

member_last : (xs : List ℕ) (n : ℕ) → Member n (xs ++ n ∷ [])
member_last [] n = inl refl
member_last (x ∷ xs) n = inr (member_last xs n)

member_kept : (xs : List ℕ) (n j : ℕ) → Member j xs → Member j (xs ++ n ∷ [])
member_kept [] n j m = absurd m
member_kept (x ∷ xs) n j (inl q) = inl q
member_kept (x ∷ xs) n j (inr m) = inr (member_kept xs n j m)

member_one : (xs : List ℕ) (n j : ℕ) → Member j (xs ++ n ∷ []) → (Member j xs) ⊎ (j ≡ n)
member_one [] n j (inl q) = inr q
member_one [] n j (inr m) = absurd m
member_one (x ∷ xs) n j (inl q) = inl (inl q)
member_one (x ∷ xs) n j (inr m) = elim (member_one xs n j m) [ inl k ↦ inl (inr k) | inr k ↦ inr k ]

-- the numbers of the marked classes below one
abbrev pub AreNumbers : List Bool → ℕ → List ℕ → Type 0
AreNumbers ms class xs = (j : ℕ) → Member j xs ↔ ((j + (builtin_count - 1) < class) × (get_or ms (j + (builtin_count - 1)) false ≡ true))

module _ (ms : List Bool) (class : ℕ) (xs : List ℕ) (r : AreNumbers ms class xs) where
  pub numbers_below : (n : ℕ) → n ≡ class - (builtin_count - 1) → builtin_count ≤ class → (j : ℕ) → Member j xs → j < n
  numbers_below n e g j m = let h = ((r j).0 m).0 in omega arith

  pub numbers_more : (n : ℕ) → n ≡ class - (builtin_count - 1) → builtin_count ≤ class → get_or ms class false ≡ true → AreNumbers ms (class + 1) (xs ++ n ∷ [])
  numbers_more n e g k j = (
    λ m. elim (member_one xs n j m) [
      | inl i ↦ let x = (r j).0 i in let h = x.0 in (omega arith, x.1)
      | inr q ↦ (omega arith, let w : j + (builtin_count - 1) ≡ class = omega arith in ap (λ (i : ℕ). get_or ms i false) w ∙ k)
    ],
    λ x. let l = x.0 in elim (cases_lt (j + (builtin_count - 1)) class) [
      | inl h ↦ member_kept xs n j ((r j).1 (h, x.1))
      | inr h ↦ let q : n ≡ j = omega arith in subst (λ (i : ℕ). Member i (xs ++ n ∷ [])) q (member_last xs n)
    ],
  )

  pub numbers_same : get_or ms class false ≡ false → AreNumbers ms (class + 1) xs
  numbers_same k j = (
    λ m. let x = (r j).0 m in let h = x.0 in (omega arith, x.1),
    λ x. let l = x.0 in elim (cases_lt (j + (builtin_count - 1)) class) [
      | inl h ↦ (r j).1 (h, x.1)
      | inr h ↦ absurd (let w : j + (builtin_count - 1) ≡ class = omega arith in let z : true ≡ false = sym x.1 ∙ (ap (λ (i : ℕ). get_or ms i false) w ∙ k) in cc)
    ],
  )
