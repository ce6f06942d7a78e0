-- A detection run is refused exactly where the suite in its own order doesn't end within the limit.
use Rattle.std.proofs.Common.{◌≡◌, ℕ, ◌+◌, ◌-◌, ◌≤◌, min, List, [], ◌∷◌, true, refl, ◌∙◌, ap, arith, Option, Some, None}
use Rattle.std.proofs.lemmas.Bool.{leb-true}
use Rattle.jvm_model.specs.{declared.program.Program.Program, World.World, State.test_at}
use Rattle.jvm_model.specs.Suite.{opening, Given, one_test, with_first, runs_on, runs, all_tests, units_of, suite_limit, within_limit, is_detected, SuiteFault, fault_of, fault_on, suite_fault}
use Rattle.jvm_model.proofs.{Budgets.one_test_within, Budgets.one_test_units, Runs.runs_after}

-- the tests give something, and their units keep to the rest
record RunsWithin (p : Program) (w : World) (r : ℕ) (l : List ℕ) : Type 0 where
  pub list : List Given
  pub is : runs_on p w l ≡ Some list
  pub within : units_of list ≤ r

-- a test that gives x, and the rest of the list after it
abbrev fault_after : Program → ℕ → ℕ → List ℕ → Option Given → Option SuiteFault
fault_after p t r l o = elim o [ None ↦ Some (fault_of p t r) | Some x ↦ fault_on p x.world (r - x.outcome.units) l ]

by_first : (p : Program) (w : World) (r t : ℕ) (l : List ℕ) (o : Option Given) →
    ((v : World) (q : ℕ) → fault_on p v q l ≡ None → RunsWithin p v q l) →
    one_test p w t (min (test_at p t).budget r) ≡ o → fault_after p t r l o ≡ None → RunsWithin p w r (t ∷ l)
by_first p w r t l None f e g = absurd (cc)
by_first p w r t l (Some x) f e g =
    let m = one_test_units p w t (min (test_at p t).budget r) x e in
    let i = f x.world (r - x.outcome.units) g in
    let j = i.within in
    let full : one_test p w t (test_at p t).budget ≡ Some x = one_test_within p w t (min (test_at p t).budget r) (test_at p t).budget x e (omega arith) in
    record { list = x ∷ i.list; is = ap (λ (z : Option Given). runs_after p l z) full ∙ ap (λ (z : Option (List Given)). with_first x z) i.is; within = omega arith }

no_fault : (p : Program) (w : World) (r : ℕ) (l : List ℕ) → fault_on p w r l ≡ None → RunsWithin p w r l
no_fault p w r [] e = record { list = []; is = refl; within = omega arith }
no_fault p w r (t ∷ l) e = by_first p w r t l (one_test p w t (min (test_at p t).budget r)) (λ v q g. no_fault p v q l g) refl e

-- what the rest of a list gives
record Rest (p : Program) (x : Given) (l : List ℕ) (xs : List Given) : Type 0 where
  pub list : List Given
  pub is : runs_on p x.world l ≡ Some list
  pub whole : xs ≡ x ∷ list

rest_of : (p : Program) (x : Given) (l : List ℕ) (xs : List Given) (o : Option (List Given)) → runs_on p x.world l ≡ o → with_first x o ≡ Some xs → Rest p x l xs
rest_of p x l xs None e g = absurd (cc)
rest_of p x l xs (Some ys) e g = record { list = ys; is = e; whole = (cc) }

by_given : (p : Program) (w : World) (r t : ℕ) (l : List ℕ) (xs : List Given) (o : Option Given) →
    ((v : World) (q : ℕ) (ys : List Given) → runs_on p v l ≡ Some ys → units_of ys ≤ q → fault_on p v q l ≡ None) →
    one_test p w t (test_at p t).budget ≡ o → runs_after p l o ≡ Some xs → units_of xs ≤ r → fault_on p w r (t ∷ l) ≡ None
by_given p w r t l xs None f e g h = absurd (cc)
by_given p w r t l xs (Some x) f e g h =
    let k = rest_of p x l xs (runs_on p x.world l) refl g in
    let u : units_of xs ≡ x.outcome.units + units_of k.list = ap units_of k.whole in
    let b = one_test_units p w t (test_at p t).budget x e in
    let m : one_test p w t (min (test_at p t).budget r) ≡ Some x = one_test_within p w t (test_at p t).budget (min (test_at p t).budget r) x e (omega arith) in
    ap (λ (z : Option Given). fault_after p t r l z) m ∙ f x.world (r - x.outcome.units) k.list k.is (omega arith)

all_within : (p : Program) (w : World) (r : ℕ) (l : List ℕ) (xs : List Given) → runs_on p w l ≡ Some xs → units_of xs ≤ r → fault_on p w r l ≡ None
all_within p w r [] xs e h = refl
all_within p w r (t ∷ l) xs e h = by_given p w r t l xs (one_test p w t (test_at p t).budget) (λ v q ys g k. all_within p v q l ys g k) refl e h

within_some : (o : Option (List Given)) (xs : List Given) → o ≡ Some xs → units_of xs ≤ suite_limit → within_limit o ≡ true
within_some o xs e h = ap within_limit e ∙ grind arith

-- no refusal: the suite is detected
pub detected_from : (p : Program) → suite_fault p ≡ None → is_detected p ≡ true
unfolding suite_fault is_detected runs
detected_from p e = let i = no_fault p (opening p) suite_limit (all_tests p) e in within_some (runs_on p (opening p) (all_tests p)) i.list i.is i.within

by_runs : (p : Program) (o : Option (List Given)) → runs_on p (opening p) (all_tests p) ≡ o → within_limit o ≡ true → fault_on p (opening p) suite_limit (all_tests p) ≡ None
by_runs p None e h = absurd (cc)
by_runs p (Some xs) e h = all_within p (opening p) suite_limit (all_tests p) xs e (leb-true (units_of xs) suite_limit h)

-- and the other way
pub no_fault_where_detected : (p : Program) → is_detected p ≡ true → suite_fault p ≡ None
unfolding suite_fault is_detected runs
no_fault_where_detected p e = by_runs p (runs_on p (opening p) (all_tests p)) refl e
