-- What a machine keeps after one test more.
use Rattle.std.proofs.Common.{◌≡◌, ◌≤◌, ℕ, List, [], ◌∷◌, ◌++◌, Option, Some, IfSome, refl, sym, subst, ap, ◌∙◌, arith}
use Rattle.jvm_model.specs.{declared.outcome.Outcome.Outcome, declared.program.Program.Program, State.test_at, World.World}
use Rattle.jvm_model.specs.Suite.{Given, opening, one_test, runs, last_outcome, outcome_in, world_after}
use Rattle.jvm_model.proofs.{Budgets.one_test_within, Budgets.one_test_units, Runs.runs_more, Runs.last_outcome_is, Runs.with_last}
use Rattle.type_frames.specs.TypedState.{TypedWorld}
use Rattle.test_run.specs.{Outcomes.given_in, Outcomes.touches_of, Running.IsAfter, Running.Stands}

-- the world after two lists, one after the other
pub world_both : (w : World) (xs ys : List Given) → world_after w (xs ++ ys) ≡ world_after (world_after w xs) ys
world_both w [] ys = refl
world_both w (x ∷ xs) ys = world_both x.world xs ys

-- and after a list and one more
pub world_more : (w : World) (xs : List Given) (x : Given) → world_after w (xs ++ (x ∷ [])) ≡ x.world
world_more w xs x = world_both w xs (x ∷ [])

-- what a test gives under a smaller number, it gives under its budget
pub own_budget : (p : Program) (w : World) (t b : ℕ) (x : Given) → b ≤ (test_at p t).budget → one_test p w t b ≡ Some x → one_test p w t (test_at p t).budget ≡ Some x
own_budget p w t b x h e = let u = one_test_units p w t b x e in one_test_within p w t b (test_at p t).budget x e (omega arith)

-- before the first test
pub after_none : (p : Program) (w : World) → w ≡ opening p → IsAfter p [] w
unfolding runs
after_none p w e = record { given = []; ran = refl; left = e }

module _ (p : Program) (q : List ℕ) (w : World) (a : IsAfter p q w) (t b : ℕ) (x : Given) (h : b ≤ (test_at p t).budget) (e : one_test p w t b ≡ Some x) where
  here : one_test p (world_after (opening p) a.given) t (test_at p t).budget ≡ Some x
  here = subst (λ (z : World). one_test p z t (test_at p t).budget ≡ Some x) a.left (own_budget p w t b x h e)

  -- its outcome is that of the longer list's last test
  pub last_is : last_outcome p (q ++ (t ∷ [])) ≡ Some x.outcome
  last_is = last_outcome_is p q t a.given a.ran ∙ ap (λ (z : Option Given). outcome_in z) here

  ran_more : runs p (q ++ (t ∷ [])) ≡ Some (a.given ++ (x ∷ []))
  unfolding runs
  ran_more = runs_more p (opening p) q t a.given a.ran ∙ ap (λ (z : Option Given). with_last a.given z) here

  pub after_more : IsAfter p (q ++ (t ∷ [])) x.world
  after_more = record {
    given = a.given ++ (x ∷ []);
    ran = ran_more;
    left = sym (world_more (opening p) a.given x);
  }

-- A test gave this outcome on a memory, and left another.
module _ {M : Type 0} (world : M → World) (p : Program) (q : List ℕ) (m n : M) (a : Stands world p q m) (t b : ℕ) (o : Option Outcome) (x : Outcome)
    (h : b ≤ (test_at p t).budget) (e : one_test p (world m) t b ≡ given_in p t (world m) b o (world n)) (f : o ≡ Some x) where
  abbrev given : Given
  given = record { outcome = x; world = world n; touches = touches_of p t (world m) b }

  gave : one_test p (world m) t b ≡ Some given
  gave = subst (λ (z : Option Outcome). one_test p (world m) t b ≡ given_in p t (world m) b z (world n)) f e

  pub last_now : last_outcome p (q ++ (t ∷ [])) ≡ Some x
  last_now = last_is p q (world m) a.after t b given h gave

  pub stands_now : (l : List ℕ) → l ≡ q ++ (t ∷ []) → IfSome o (λ y. TypedWorld p (world n)) → Stands world p l n
  stands_now l g typed = record {
    after = subst (λ (z : List ℕ). IsAfter p z (world n)) (sym g) (after_more p q (world m) a.after t b given h gave);
    typed = subst (λ (z : Option Outcome). IfSome z (λ y. TypedWorld p (world n))) f typed;
  }
