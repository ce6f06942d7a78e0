-- The run of a list, test by test.
use Rattle.std.proofs.Common.{◌≡◌, ℕ, suc, ◌+◌, ◌-◌, ◌*◌, ◌^◌, ◌<◌, ◌≤◌, List, [], ◌∷◌, ◌++◌, length, take, drop, get_or, true, false, Option, Some, None, Result, Ok, Err, IfOk, OnOk, OnErr, sym, ◌∙◌, ap, subst, arith}
use Rattle.std.proofs.{Math.Seq.split_at, lemmas.List.take_more}
use Rattle.jvm_model.specs.{declared.program.Program.Program, State.no_test, State.test_at, World.World}
use Rattle.jvm_model.specs.Suite.{Given, opening, one_test, runs, first_over_on, first_over, outcome_in, units_of, world_after, suite_limit}
use Rattle.jvm_model.proofs.{Budgets.one_test_units, Runs.last_outcome_is}
use Rattle.type_frames.specs.Typing.{IsTyped}
use Rattle.vm_mem.specs.Kept.{Kept}
use Rattle.test_run.specs.{declared.run_fault.RunFault.RunFault, Outcomes.given_in}
use Rattle.test_run.specs.declared.run_fault.RunFault.TheVariants as fault
use Rattle.test_run.specs.Running.{IsAfter, IsRefused, IsTest, Machined, Posted}
use Rattle.cone_run.specs.{Cones.ended_units_on, Cones.cone_units, Runs.IsListFault, Runs.IsNextFault, Runs.IsPieceOf, Runs.RanAfter}
use Rattle.cone_run.proofs.Units.{ended_both, over_both, units_are}

-- a test's budget is at most the limit of a suite
pub budget_low : (p : Program) (t : ℕ) → IsTyped p → IsTest p t → (test_at p t).budget ≤ suite_limit
budget_low p t typed test = let a = test.0 in let b = test.1 in (typed.linked.tests (t - 1) no_test (omega arith)).budget.1

module _ (p : Program) (l : List ℕ) (w : World) (a : IsAfter p l w) (t : ℕ) where
  here : (o : Option Given) → one_test p w t (test_at p t).budget ≡ o → one_test p (world_after (opening p) a.given) t (test_at p t).budget ≡ o
  here o e = ap (λ (z : World). one_test p z t (test_at p t).budget) (sym a.left) ∙ e

  -- it gives something
  pub units_more : (x : Given) → one_test p w t (test_at p t).budget ≡ Some x → cone_units p (l ++ (t ∷ [])) ≡ cone_units p l + x.outcome.units
  unfolding runs
  units_more x e =
      let f = ended_both p (opening p) l (t ∷ []) a.given a.ran in
      let g : ended_units_on p (world_after (opening p) a.given) (t ∷ []) ≡ x.outcome.units + 0 =
      ap (λ (o : Option Given). elim o [ None ↦ 0 | Some x ↦ x.outcome.units + ended_units_on p x.world [] ]) (here (Some x) e) in
      let h = units_are p l a.given a.ran in
      let k : cone_units p (l ++ (t ∷ [])) ≡ units_of a.given + (x.outcome.units + 0) = f ∙ ap (λ (n : ℕ). units_of a.given + n) g in
      omega arith

  -- it gives nothing
  pub over_here : one_test p w t (test_at p t).budget ≡ None → (r : List ℕ) → first_over p (l ++ (t ∷ r)) ≡ Some t
  unfolding runs first_over
  over_here e r = over_both p (opening p) l (t ∷ r) a.given a.ran ∙ ap (λ (o : Option Given). elim o [ None ↦ Some t | Some x ↦ first_over_on p x.world r ]) (here None e)

  pub units_here : one_test p w t (test_at p t).budget ≡ None → (r : List ℕ) → cone_units p (l ++ (t ∷ r)) ≡ cone_units p l
  unfolding runs
  units_here e r =
      let f = ended_both p (opening p) l (t ∷ r) a.given a.ran in
      let g : ended_units_on p (world_after (opening p) a.given) (t ∷ r) ≡ 0 =
      ap (λ (o : Option Given). elim o [ None ↦ 0 | Some x ↦ x.outcome.units + ended_units_on p x.world r ]) (here None e) in
      let h = units_are p l a.given a.ran in
      let k : cone_units p (l ++ (t ∷ r)) ≡ units_of a.given + 0 = f ∙ ap (λ (n : ℕ). units_of a.given + n) g in
      omega arith

  pub next_fault : (e : RunFault) → IsRefused p w t (test_at p t).budget e → IsNextFault p l t e
  next_fault (fault.OverBudget u) r = record { named = r.0; first = over_here r.1; units = units_here r.1 }
  next_fault fault.NoMemory r = tt

  -- what the run of the test answered: its piece
  module _ (r : Result Posted RunFault) (worker : ℕ) (old new : Machined Kept) (is : IfOk r (λ x. x ≡ record { program = p; worker = worker; list = l ++ (t ∷ []); outcome = x.outcome })) where
    pub ran_after : (v : World) → IsTyped p → IsTest p t → IfOk r (λ x. one_test p w t (test_at p t).budget ≡ given_in p t w (test_at p t).budget (Some x.outcome) v) → IfOk r (RanAfter p l t)
    ran_after v typed test gives = by r is gives
      where
        by : (z : Result Posted RunFault) → IfOk z (λ x. x ≡ record { program = p; worker = worker; list = l ++ (t ∷ []); outcome = x.outcome }) →
            IfOk z (λ x. one_test p w t (test_at p t).budget ≡ given_in p t w (test_at p t).budget (Some x.outcome) v) → IfOk z (RanAfter p l t)
        by (Err e) q g = tt
        by (Ok x) q g =
            let low = one_test_units p w t (test_at p t).budget _ g in
            let top = budget_low p t typed test in
            record {
              piece = record {
                program = ap (λ (z : Posted). z.program) q;
                list = ap (λ (z : Posted). z.list) q;
                gives = last_outcome_is p l t a.given a.ran ∙ ap (λ (o : Option Given). outcome_in o) (here _ g);
              };
              units = units_more _ g;
              few = omega arith;
            }

    -- and the machine's list is that of the piece
    pub same_list : OnOk r (new ≡ record old { list = old.list ++ (t ∷ []); memory = new.memory }) → old.list ≡ l → IfOk r (λ x. new.list ≡ x.list)
    same_list after e = by r is after
      where
        by : (z : Result Posted RunFault) → IfOk z (λ x. x ≡ record { program = p; worker = worker; list = l ++ (t ∷ []); outcome = x.outcome }) → OnOk z (new ≡ record old { list = old.list ++ (t ∷ []); memory = new.memory }) → IfOk z (λ x. new.list ≡ x.list)
        by (Err e) q h = tt
        by (Ok x) q h = ap (λ (m : Machined Kept). m.list) h ∙ (ap (λ (z : List ℕ). z ++ (t ∷ [])) e ∙ sym (ap (λ (z : Posted). z.list) q))

-- a machine after a test that ended, or was refused
module _ (r : Result Posted RunFault) (old new : Machined Kept) (l : List ℕ) where
  pub same_machine : OnOk r (new ≡ record old { list = l; memory = new.memory }) → OnErr r (new ≡ record old { memory = new.memory; spent = true }) → (new.program ≡ old.program) × (new.worker ≡ old.worker)
  same_machine after spent = by r after spent
    where
      by : (z : Result Posted RunFault) → OnOk z (new ≡ record old { list = l; memory = new.memory }) → OnErr z (new ≡ record old { memory = new.memory; spent = true }) → (new.program ≡ old.program) × (new.worker ≡ old.worker)
      by (Ok x) h k = (ap (λ (m : Machined Kept). m.program) h, ap (λ (m : Machined Kept). m.worker) h)
      by (Err e) h k = (ap (λ (m : Machined Kept). m.program) k, ap (λ (m : Machined Kept). m.worker) k)

  pub still_ready : OnOk r (new ≡ record old { list = l; memory = new.memory }) → old.spent ≡ false → OnOk r (new.spent ≡ false)
  still_ready after e = by r after
    where
      by : (z : Result Posted RunFault) → OnOk z (new ≡ record old { list = l; memory = new.memory }) → OnOk z (new.spent ≡ false)
      by (Err e) h = tt
      by (Ok x) h = ap (λ (m : Machined Kept). m.spent) h ∙ e

-- a list that is run, at this place
module _ (p : Program) (l : List ℕ) (i : ℕ) where
  of_more : {A : Type 0} (P : List ℕ → A → Type 0) (x : A) → i < length l → P (take i l ++ (get_or l i 0 ∷ [])) x → P (take (i + 1) l) x
  of_more P x lt h = subst (λ (z : List ℕ). P z x) (sym (take_more l i 0 lt)) h

  -- its test at this place ran
  pub piece_more : (x : Posted) → i < length l → RanAfter p (take i l) (get_or l i 0) x → IsPieceOf p (take (i + 1) l) x
  piece_more x lt r = of_more (IsPieceOf p) x lt r.piece

  pub units_next : (x : Posted) → i < length l → RanAfter p (take i l) (get_or l i 0) x → cone_units p (take (i + 1) l) ≡ cone_units p (take i l) + x.outcome.units
  units_next x lt r = ap (λ (z : List ℕ). cone_units p z) (take_more l i 0 lt) ∙ r.units

  -- or it was refused
  pub list_fault : (begun now : ℕ) (e : RunFault) → i < length l → now ≡ begun + cone_units p (take i l) → IsNextFault p (take i l) (get_or l i 0) e → IsListFault p l begun now e
  list_fault begun now (fault.OverBudget u) lt n f =
      let whole = split_at l i 0 lt in
      let units : cone_units p l ≡ cone_units p (take i l) = ap (λ (z : List ℕ). cone_units p z) whole ∙ f.units (drop (suc i) l) in
      (ap (λ (z : List ℕ). first_over p z) whole ∙ (f.first (drop (suc i) l) ∙ ap (λ (z : ℕ). Some z) (sym f.named)), omega arith)
  list_fault begun now fault.NoMemory lt n f = tt

-- the units of a list with one test more
pub low_next : (a b c i : ℕ) → a ≤ i * 67108864 → b ≡ c → c ≤ suite_limit → a + b ≤ (i + 1) * 67108864
unfolding suite_limit
low_next a b c i h e k = omega arith

pub room_next : (a b c i n : ℕ) → a ≤ i * 67108864 → b ≡ c → c ≤ suite_limit → i < n → n ≤ 1024 → a + b < 2 ^ 64
unfolding suite_limit
room_next a b c i n h e k lt few = omega arith

pub counted_more : (begun now then a b c : ℕ) → now ≡ begun + a → then ≡ now + c → b ≡ c → then ≡ begun + (a + b)
counted_more begun now then a b c e f g = omega arith
