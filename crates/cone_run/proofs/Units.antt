-- The tests of a list that end, and the first that gives nothing.
use Rattle.std.proofs.Common.{◌≡◌, ℕ, ◌+◌, List, [], ◌∷◌, ◌++◌, Option, Some, None, refl, sym, ◌∙◌, ap, subst, arith}
use Rattle.std.proofs.lemmas.List.{append-nil}
use Rattle.jvm_model.specs.{declared.program.Program.Program, State.test_at, World.World}
use Rattle.jvm_model.specs.Suite.{Given, opening, one_test, runs_on, runs, with_first, first_over_on, first_over, last_outcome, last_in, outcome_in, units_of, world_after}
use Rattle.jvm_model.proofs.Runs.{split}
use Rattle.cone_run.specs.Cones.{ended_units_on, cone_units}

-- the tests of a list that all end, and others behind them
pub ended_both : (p : Program) (w : World) (l k : List ℕ) (xs : List Given) → runs_on p w l ≡ Some xs → ended_units_on p w (l ++ k) ≡ units_of xs + ended_units_on p (world_after w xs) k
ended_both p w [] k xs e = let q : [] ≡ xs = cc in subst (λ (z : List Given). ended_units_on p w k ≡ units_of z + ended_units_on p (world_after w z) k) q (let h : ended_units_on p w k ≡ 0 + ended_units_on p w k = omega arith in h)
ended_both p w (t ∷ l) k xs e =
    let s = split p w t l xs e in
    let r = ended_both p s.first.world l k s.others s.others_are in
    let f : ended_units_on p w (t ∷ (l ++ k)) ≡ s.first.outcome.units + ended_units_on p s.first.world (l ++ k) =
    ap (λ (o : Option Given). elim o [ None ↦ 0 | Some x ↦ x.outcome.units + ended_units_on p x.world (l ++ k) ]) s.first_is in
    let g : units_of (s.first ∷ s.others) + ended_units_on p (world_after w (s.first ∷ s.others)) k ≡ units_of xs + ended_units_on p (world_after w xs) k =
    ap (λ (z : List Given). units_of z + ended_units_on p (world_after w z) k) (sym s.whole) in
    f ∙ (let h : s.first.outcome.units + ended_units_on p s.first.world (l ++ k) ≡ units_of (s.first ∷ s.others) + ended_units_on p (world_after s.first.world s.others) k = omega arith in h) ∙ g

pub over_both : (p : Program) (w : World) (l k : List ℕ) (xs : List Given) → runs_on p w l ≡ Some xs → first_over_on p w (l ++ k) ≡ first_over_on p (world_after w xs) k
over_both p w [] k xs e = let q : xs ≡ [] = cc in rw q refl
over_both p w (t ∷ l) k xs e =
    let s = split p w t l xs e in
    ap (λ (o : Option Given). elim o [ None ↦ Some t | Some x ↦ first_over_on p x.world (l ++ k) ]) s.first_is
    ∙ over_both p s.first.world l k s.others s.others_are
    ∙ ap (λ (z : List Given). first_over_on p (world_after w z) k) (sym s.whole)

-- a list whose tests all end
pub none_over : (p : Program) (l : List ℕ) (xs : List Given) → runs p l ≡ Some xs → first_over p l ≡ None
unfolding runs first_over
none_over p l xs e = ap (λ (z : List ℕ). first_over_on p (opening p) z) (sym (append-nil l)) ∙ over_both p (opening p) l [] xs e

pub units_are : (p : Program) (l : List ℕ) (xs : List Given) → runs p l ≡ Some xs → cone_units p l ≡ units_of xs
unfolding runs
units_are p l xs e = let r = ended_both p (opening p) l [] xs e in ap (λ (z : List ℕ). ended_units_on p (opening p) z) (sym (append-nil l)) ∙ (let h : ended_units_on p (opening p) (l ++ []) ≡ units_of xs = omega arith in h)

-- where one gives nothing
over_none : (p : Program) (w : World) (l : List ℕ) (u : ℕ) → first_over_on p w l ≡ Some u → runs_on p w l ≡ None
over_none p w [] u e = absurd (cc)
over_none p w (t ∷ l) u e = by (one_test p w t (test_at p t).budget) refl (λ x f. over_none p x.world l u f)
  where
    by : (o : Option Given) → one_test p w t (test_at p t).budget ≡ o → ((x : Given) → first_over_on p x.world l ≡ Some u → runs_on p x.world l ≡ None) → runs_on p w (t ∷ l) ≡ None
    by None h k = ap (λ (o : Option Given). elim o [ None ↦ None | Some x ↦ with_first x (runs_on p x.world l) ]) h
    by (Some x) h k =
        let f : first_over_on p x.world l ≡ Some u = sym (ap (λ (o : Option Given). elim o [ None ↦ Some t | Some y ↦ first_over_on p y.world l ]) h) ∙ e in
        ap (λ (o : Option Given). elim o [ None ↦ None | Some y ↦ with_first y (runs_on p y.world l) ]) h ∙ ap (λ (z : Option (List Given)). with_first x z) (k x f)

pub nothing_last : (p : Program) (l : List ℕ) (u : ℕ) → first_over p l ≡ Some u → last_outcome p l ≡ None
unfolding first_over last_outcome runs
nothing_last p l u e = ap (λ (z : Option (List Given)). outcome_in (last_in z)) (over_none p (opening p) l u e)
