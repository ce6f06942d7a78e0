-- A list of tests with one more at its end.
use Rattle.std.proofs.Common.{◌≡◌, ℕ, List, [], ◌∷◌, ◌++◌, refl, sym, ◌∙◌, ap, Option, Some, None}
use Rattle.jvm_model.specs.{declared.program.Program.Program, World.World, State.test_at}
use Rattle.jvm_model.specs.Suite.{opening, Given, one_test, with_first, runs_on, runs, last_in, outcome_in, last_outcome, world_after}

abbrev pub with_last : List Given → Option Given → Option (List Given)
with_last xs None = None
with_last xs (Some x) = Some (xs ++ (x ∷ []))

first_last : (x : Given) (xs : List Given) (o : Option Given) → with_first x (with_last xs o) ≡ with_last (x ∷ xs) o
first_last x xs None = refl
first_last x xs (Some y) = refl

-- what the first test of a list gave, and the others
pub record Split (p : Program) (w : World) (t : ℕ) (l : List ℕ) (xs : List Given) : Type 0 where
  pub first : Given
  pub others : List Given
  pub first_is : one_test p w t (test_at p t).budget ≡ Some first
  pub others_are : runs_on p first.world l ≡ Some others
  pub whole : xs ≡ first ∷ others

pub split_rest : (p : Program) (w : World) (t : ℕ) (l : List ℕ) (xs : List Given) (x : Given) (o : Option (List Given)) → one_test p w t (test_at p t).budget ≡ Some x →
    runs_on p x.world l ≡ o → with_first x o ≡ Some xs → Split p w t l xs
split_rest p w t l xs x None e f g = absurd (cc)
split_rest p w t l xs x (Some ys) e f g = record { first = x; others = ys; first_is = e; others_are = f; whole = (cc) }

-- a test that gives x, and the rest of the list after it
abbrev pub runs_after : Program → List ℕ → Option Given → Option (List Given)
runs_after p l o = elim o [ None ↦ None | Some x ↦ with_first x (runs_on p x.world l) ]

split_by : (p : Program) (w : World) (t : ℕ) (l : List ℕ) (xs : List Given) (o : Option Given) → one_test p w t (test_at p t).budget ≡ o → runs_after p l o ≡ Some xs → Split p w t l xs
split_by p w t l xs None e g = absurd (cc)
split_by p w t l xs (Some x) e g = split_rest p w t l xs x (runs_on p x.world l) e refl g

pub split : (p : Program) (w : World) (t : ℕ) (l : List ℕ) (xs : List Given) → runs_on p w (t ∷ l) ≡ Some xs → Split p w t l xs
split p w t l xs e = split_by p w t l xs (one_test p w t (test_at p t).budget) refl e

one_more : (p : Program) (w : World) (t : ℕ) (o : Option Given) → one_test p w t (test_at p t).budget ≡ o → runs_on p w (t ∷ []) ≡ with_last [] o
one_more p w t None e = ap (λ (z : Option Given). runs_after p [] z) e
one_more p w t (Some x) e = ap (λ (z : Option Given). runs_after p [] z) e

-- the tests of a list and one more
pub runs_more : (p : Program) (w : World) (l : List ℕ) (t : ℕ) (xs : List Given) → runs_on p w l ≡ Some xs →
    runs_on p w (l ++ (t ∷ [])) ≡ with_last xs (one_test p (world_after w xs) t (test_at p t).budget)
runs_more p w [] t xs e = let q : xs ≡ [] = cc in one_more p w t (one_test p w t (test_at p t).budget) refl ∙ ap (λ (z : List Given). with_last z (one_test p (world_after w z) t (test_at p t).budget)) (sym q)
runs_more p w (u ∷ l) t xs e =
    let s = split p w u l xs e in
    let r = runs_more p s.first.world l t s.others s.others_are in
    ap (λ (z : Option Given). runs_after p (l ++ (t ∷ [])) z) s.first_is
    ∙ ap (λ (z : Option (List Given)). with_first s.first z) r
    ∙ first_last s.first s.others (one_test p (world_after s.first.world s.others) t (test_at p t).budget)
    ∙ ap (λ (z : List Given). with_last z (one_test p (world_after w z) t (test_at p t).budget)) (sym s.whole)

last_of_more : (xs : List Given) (x : Given) → last_in (Some (xs ++ (x ∷ []))) ≡ Some x
last_of_more [] x = refl
last_of_more (y ∷ []) x = refl
last_of_more (y ∷ z ∷ zs) x = last_of_more (z ∷ zs) x

with_last_in : (xs : List Given) (o : Option Given) → last_in (with_last xs o) ≡ o
with_last_in xs None = refl
with_last_in xs (Some x) = last_of_more xs x

-- the outcome of the last test of a list
pub last_outcome_is : (p : Program) (l : List ℕ) (t : ℕ) (xs : List Given) → runs p l ≡ Some xs →
    last_outcome p (l ++ (t ∷ [])) ≡ outcome_in (one_test p (world_after (opening p) xs) t (test_at p t).budget)
unfolding runs last_outcome
last_outcome_is p l t xs e = ap (λ (z : Option (List Given)). outcome_in (last_in z)) (runs_more p (opening p) l t xs e)
    ∙ ap (λ (z : Option Given). outcome_in z) (with_last_in xs (one_test p (world_after (opening p) xs) t (test_at p t).budget))
