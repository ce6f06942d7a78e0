-- Types that are assignable one by one.
use Rattle.std.proofs.Common.{◌≡◌, suc, List, [], ◌∷◌, ◌++◌, length, reverse, ◌&&◌, true, false, refl, ap, sym, ◌∙◌, arith, inl, inr, ◌⊎◌}
use Rattle.std.proofs.lemmas.{Bool.cases_eq, List.reverse-append, List.length-reverse}
use Rattle.std.proofs.Math.Bool.{and-false, and_comm, and_assoc}
use Rattle.jvm_model.specs.declared.program.Program.{Program}
use Rattle.type_frames.specs.{declared.vtype.VType.VType, Assign.assignable, Rules.fit_all}

pub fit_all_lengths : (p : Program) (xs ys : List VType) → (length xs ≡ length ys → ⊥) → fit_all p xs ys ≡ false
fit_all_lengths p [] [] ne = absurd (ne refl)
fit_all_lengths p [] (y ∷ ys) ne = refl
fit_all_lengths p (x ∷ xs) [] ne = refl
fit_all_lengths p (x ∷ xs) (y ∷ ys) ne = ap (λ b. assignable p x y && b) (fit_all_lengths p xs ys (λ e. ne (ap suc e))) ∙ and-false (assignable p x y)

fit_all_end : (p : Program) (xs ys : List VType) (x y : VType) → length xs ≡ length ys → fit_all p (xs ++ x ∷ []) (ys ++ y ∷ []) ≡ (fit_all p xs ys && assignable p x y)
fit_all_end p [] [] x y e = and_comm (assignable p x y) true
fit_all_end p [] (b ∷ ys) x y e = cc
fit_all_end p (a ∷ xs) [] x y e = cc
fit_all_end p (a ∷ xs) (b ∷ ys) x y e = let q : length xs ≡ length ys = omega arith in ap (λ c. assignable p a b && c) (fit_all_end p xs ys x y q) ∙ sym (and_assoc (assignable p a b) (fit_all p xs ys) (assignable p x y))

reversed_alike : (p : Program) (xs ys : List VType) → length xs ≡ length ys → fit_all p (reverse xs) (reverse ys) ≡ fit_all p xs ys
reversed_alike p [] [] e = refl
reversed_alike p [] (y ∷ ys) e = cc
reversed_alike p (x ∷ xs) [] e = cc
reversed_alike p (x ∷ xs) (y ∷ ys) e =
    let q : length xs ≡ length ys = omega arith in
    let r : length (reverse xs) ≡ length (reverse ys) = length-reverse xs ∙ q ∙ sym (length-reverse ys) in
    ap (λ l. fit_all p l (reverse (y ∷ ys))) (reverse-append (x ∷ []) xs) ∙ ap (fit_all p (reverse xs ++ x ∷ [])) (reverse-append (y ∷ []) ys)
    ∙ fit_all_end p (reverse xs) (reverse ys) x y r ∙ ap (λ b. b && assignable p x y) (reversed_alike p xs ys q) ∙ and_comm (fit_all p xs ys) (assignable p x y)

pub fit_all_reverse : (p : Program) (xs ys : List VType) → fit_all p xs ys ≡ fit_all p (reverse xs) (reverse ys)
fit_all_reverse p xs ys = go (cases_eq (length xs) (length ys))
  where
    go : (length xs ≡ length ys) ⊎ (length xs ≡ length ys → ⊥) → fit_all p xs ys ≡ fit_all p (reverse xs) (reverse ys)
    go (inl e) = sym (reversed_alike p xs ys e)
    go (inr ne) = fit_all_lengths p xs ys ne ∙ sym (fit_all_lengths p (reverse xs) (reverse ys) (λ e. ne (sym (length-reverse xs) ∙ e ∙ length-reverse ys)))

pub fit_alone : (p : Program) (t : VType) (s : List VType) → (length s ≡ 1 → ⊥) → false ≡ fit_all p (t ∷ []) (reverse s)
fit_alone p t s ne = sym (fit_all_lengths p (t ∷ []) (reverse s) (λ e. ne (sym (length-reverse s) ∙ sym e)))
