-- The tests of a generated suite pass, with the units that its summary tells.
use Rattle.std.proofs.Common.{◌≡◌, ℕ, ◌-◌, ◌%◌, List, [], ◌∷◌, length, map, sum, count_by, Bool, true, false, cond, ◌==◌, if◌then◌else◌, Some, refl, sym, ◌∙◌, arith, inl, inr}
use Rattle.std.specs.List.{list_all}
use Rattle.std.proofs.lemmas.{List.Sums.sum_by-cons, Option.same_Some}
use Rattle.generated_law.specs.GeneratedRun.{outcome_of, passed_with}
use Rattle.jvm_model.specs.declared.outcome.{Outcome.Outcome, Verdict.Verdict, Verdict.TheVariants.Passed}
use Rattle.jvm_model.specs.{Suite.seq, Texts.is_passed}
use Rattle.order_law.specs.Conflicts.{Member}
use Rattle.suite_load.specs.declared.loaded.Loaded.{Loaded}
use Rattle.electrictest.specs.{PoolRuns.AreOwn, PoolRuns.outcomes, TestNames.units_in}

-- ---- verdicts

passed_each : (first third : Bool) (output : List ℕ) (units : ℕ) → ◌≡◌ {A = Verdict} (if first then passed_with [] 6 else if third then passed_with [] 9 else passed_with output units).verdict Passed
passed_each true third output units = refl
passed_each false true output units = refl
passed_each false false output units = refl

pub passes : (t : ℕ) → ◌≡◌ {A = Verdict} (outcome_of t).verdict Passed
unfolding outcome_of
passes t = passed_each ((t - 1) % 4 == 0) ((t - 1) % 4 == 2) _ _

-- tests with their outcomes
abbrev pub passing : List ℕ → List (ℕ × Outcome)
passing ts = map (λ t. (t, outcome_of t)) ts

pub all_pass : (ts : List ℕ) → list_all is_passed (outcomes (passing ts)) ≡ true
all_pass [] = refl
all_pass (t ∷ ts) = rw (passes t) (all_pass ts)

pub passed_many : (ts : List ℕ) → count_by is_passed (outcomes (passing ts)) ≡ length ts
passed_many [] = refl
passed_many (t ∷ ts) =
    let here : ◌≡◌ {A = ℕ} (cond (is_passed (outcome_of t)) 1 0) 1 = rw (passes t) refl in
    let more = sum_by-cons (λ (o : Outcome). cond (is_passed o) 1 0) (outcome_of t) (outcomes (passing ts)) in
    let rest = passed_many ts in
    omega (arith, here, more, rest)

pub none_other : (p : Outcome → Bool) → ((t : ℕ) → p (outcome_of t) ≡ false) → (ts : List ℕ) → count_by p (outcomes (passing ts)) ≡ 0
none_other p none [] = refl
none_other p none (t ∷ ts) =
    let here : ◌≡◌ {A = ℕ} (cond (p (outcome_of t)) 1 0) 0 = rw (none t) refl in
    let more = sum_by-cons (λ (o : Outcome). cond (p o) 1 0) (outcome_of t) (outcomes (passing ts)) in
    let rest = none_other p none ts in
    omega (arith, here, more, rest)

-- ---- units

pub units_all : (ts : List ℕ) → units_in (outcomes (passing ts)) ≡ sum (map (λ t. (outcome_of t).units) ts)
units_all [] = refl
units_all (t ∷ ts) =
    let more = sum_by-cons (λ (n : ℕ). n) (outcome_of t).units (map (λ t. (outcome_of t).units) ts) in
    let rest = units_all ts in
    omega (arith, more, rest)

-- ---- tests with the outcomes of the suite's own order

pub given_is : (l : Loaded) (ts : List ℕ) (xs : List (ℕ × Outcome)) → ((t : ℕ) → Member t ts → seq l.checked t ≡ Some (outcome_of t)) → AreOwn l ts xs → xs ≡ passing ts
given_is l [] [] own g = refl
given_is l [] (x ∷ xs) own g = absurd g
given_is l (t ∷ ts) [] own g = absurd g
given_is l (t ∷ ts) (x ∷ xs) own g =
    let here : x.1 ≡ outcome_of t = same_Some x.1 (outcome_of t) (sym g.1 ∙ own t (inl refl)) in
    let rest = given_is l ts xs (λ u m. own u (inr m)) g.2 in
    λ i. (g.0 i, here i) ∷ rest i
