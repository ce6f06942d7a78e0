-- What is written for each number of a range.
use Rattle.std.proofs.Common.{◌≡◌, ℕ, zero, suc, ◌+◌, ◌≤◌, List, [], ◌∷◌, ◌++◌, append-nil, refl, sym, ap, ◌∙◌, arith}
use Rattle.std.proofs.lemmas.{List.append_assoc, Grind.flat_map-append}
use Rattle.std.specs.List.{flat_map, range_with_len}
use Rattle.et_base.proofs.Ranges.{range_more}

-- behind what was written before
one_more : (f : ℕ → List ℕ) (front : List ℕ) (a n j : ℕ) → a + n ≡ j → (front ++ flat_map f (range_with_len a n)) ++ f j ≡ front ++ flat_map f (range_with_len a (n + 1))
one_more f front a n j e =
    append_assoc front (flat_map f (range_with_len a n)) (f j)
    ∙ ap (λ (l : List ℕ). front ++ l) (ap (λ (l : List ℕ). flat_map f (range_with_len a n) ++ l) (sym (append-nil (f j)))
    ∙ (sym (flat_map-append f (range_with_len a n) (j ∷ [])) ∙ ap (flat_map f) (sym (range_more a n j e))))

pub grown : (f : ℕ → List ℕ) (front out new : List ℕ) (a n j : ℕ) → a + n ≡ j → out ≡ front ++ flat_map f (range_with_len a n) → new ≡ out ++ f j → new ≡ front ++ flat_map f (range_with_len a (n + 1))
grown f front out new a n j e h k = k ∙ (ap (λ (l : List ℕ). l ++ f j) h ∙ one_more f front a n j e)

-- two writings that are the same for each number of a range
pub each_same : (f g : ℕ → List ℕ) (most a n : ℕ) → ((i : ℕ) → i ≤ most → f i ≡ g i) → a + n ≤ most + 1 → flat_map f (range_with_len a n) ≡ flat_map g (range_with_len a n)
each_same f g most a zero same low = refl
each_same f g most a (suc n) same low = ap (λ (l : List ℕ). l ++ flat_map f (range_with_len (a + 1) n)) (same a (omega (arith, low)))
    ∙ ap (λ (l : List ℕ). g a ++ l) (each_same f g most (a + 1) n same (omega (arith, low)))

pub flat_twice : {A B : Type 0} (f : A → List B) (g : ℕ → List A) (xs : List ℕ) → flat_map f (flat_map g xs) ≡ flat_map (λ x. flat_map f (g x)) xs
flat_twice f g [] = refl
flat_twice f g (x ∷ xs) = flat_map-append f (g x) (flat_map g xs) ∙ ap (λ l. flat_map f (g x) ++ l) (flat_twice f g xs)
