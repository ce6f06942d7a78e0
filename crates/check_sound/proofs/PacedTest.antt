-- A whole test touches at most four locations for each unit, and writes only the statics that some code puts.
use Rattle.std.proofs.Common.{◌≡◌, ℕ, zero, suc, ◌+◌, ◌-◌, ◌*◌, ◌^◌, ◌<◌, ◌≤◌, ◌++◌, length, Some, refl, sym, ◌∙◌, ap, subst, arith, inl, inr, length-append}
use Rattle.std.proofs.lemmas.List.Elements.{All-nil, All-append}
use Rattle.jvm_model.specs.declared.{state.EntryKind.TheVariants.Absent, state.EntryKind.TheVariants.InMethod, program.Program.Program}
use Rattle.jvm_model.specs.declared.values.Location.TheVariants as place
use Rattle.jvm_model.specs.{World.World, World.at, Linked.Linked, Access.Ran, Access.done, Access.run, Step.step, Step.cost, Step.touch}
use Rattle.jvm_model.specs.State.{State, Turn, next, ended, stuck_turn, started}
use Rattle.jvm_model.specs.Suite.{End, finished, stuck, out_of_steps, after_step, whole, tree, Given, one_test}
use Rattle.jvm_model.proofs.{Binds.run_bind, Budgets.step_costs}
use Rattle.check_sound.specs.PaceLaw.{IsRunning, IsPut, WriteOf, Writes, IsSameStatic}
use Rattle.check_sound.proofs.{PacedStep.step_bounded, PacedStep.paced, PacedStep.statics_of, WholeTest.given_by}

module _ (p : Program) (lk : Linked p) where
  -- what the steps from a world on did; their units are few where no cost was cut
  record RanWell (w : World) (r : Ran End) : Type 0 where
    pub few : r.units < 2 ^ 64 - 1 → length r.touches ≤ 4 * r.units
    pub writes : Writes (IsPut p) r.touches
    pub same : (f : ℕ) → (IsPut p f → ⊥) → IsSameStatic r.world w f

  abbrev rest : ℕ → State → World → Ran End
  rest n s w = run (after_step (λ t. whole p n t) (run (step p s) w).value) (run (step p s) w).world

  -- a step within its pace, and what comes after it
  few_then : (n : ℕ) (s : State) (w : World) → length (touch p s w) ≤ 4 * cost p s w → RanWell (run (step p s) w).world (rest n s w) → (run (whole p (suc n) s) w).units < 2 ^ 64
      → length (run (whole p (suc n) s) w).touches ≤ 4 * (run (whole p (suc n) s) w).units
  few_then n s w q h l =
      let a = rest n s w in
      let b = run_bind (step p s) (after_step (λ t. whole p n t)) w in
      let u : (run (whole p (suc n) s) w).units ≡ cost p s w + a.units = ap (λ (x : Ran End). x.units) b in
      let t : length (run (whole p (suc n) s) w).touches ≡ length (touch p s w ++ a.touches) = ap (λ (x : Ran End). length x.touches) b in
      let c = length-append (touch p s w) a.touches in
      let one = step_costs p s w in
      let k = h.few (omega arith) in
      omega arith

  then_well : (n : ℕ) (s : State) (w : World) → RanWell (run (step p s) w).world (rest n s w) → RanWell w (run (whole p (suc n) s) w)
  then_well n s w h =
      let r = run (step p s) w in
      let a = rest n s w in
      let b = run_bind (step p s) (after_step (λ t. whole p n t)) w in
      let m = statics_of p lk s w (IsPut p) (λ f k. (s.entries.top.number, s.entries.top.pc, k.1)) in
      let u : (run (whole p (suc n) s) w).units ≡ r.units + a.units = ap (λ (x : Ran End). x.units) b in
      record {
        few = λ l. elim (step_bounded p lk s w) [
          | inl k ↦ few_then n s w (omega arith) h (omega arith)
          | inr k ↦ absurd (let c = k.1 in omega arith)
        ];
        writes = subst (λ (x : Ran End). Writes (IsPut p) x.touches) (sym b) (All-append (WriteOf (IsPut p)) r.touches a.touches m.0 h.writes);
        same = λ f k. ap (λ (x : World). at x (place.Static f)) (ap (λ (x : Ran End). x.world) b) ∙ (h.same f k ∙ m.1 f k);
      }

  ends_well : (w : World) (e : End) → RanWell w (run (done e) w)
  ends_well w e = record { few = λ l. omega arith; writes = All-nil (WriteOf (IsPut p)); same = λ f k. refl }

  after_well : (n : ℕ) → ((s : State) (w : World) → RanWell w (run (whole p n s) w)) → (x : Turn) (w : World) → RanWell w (run (after_step (λ t. whole p n t) x) w)
  after_well n f (next t) w = f t w
  after_well n f (ended v o) w = ends_well w (finished v o)
  after_well n f stuck_turn w = ends_well w stuck

  whole_well : (n : ℕ) (s : State) (w : World) → RanWell w (run (whole p n s) w)
  whole_well zero s w = ends_well w out_of_steps
  whole_well (suc n) s w = then_well n s w (after_well n (λ t v. whole_well n t v) (run (step p s) w).value (run (step p s) w).world)

  -- the first step is the driver's
  not_running : (t : ℕ) → IsRunning (started p t) → ⊥
  not_running t r = let z : Absent ≡ InMethod = r.0 in absurd (cc)

  module _ (t b : ℕ) (w : World) where
    pub test_paced : (run (tree p t b) w).units < 2 ^ 64 → length (run (tree p t b) w).touches ≤ 4 * (run (tree p t b) w).units
    unfolding tree
    test_paced l =
        let s = started p t in
        few_then b s w (paced p lk s w (λ x. absurd (not_running t x))) (after_well b (λ u v. whole_well b u v) (run (step p s) w).value (run (step p s) w).world) l

    pub given_paced : (g : Given) → one_test p w t b ≡ Some g → g.outcome.units < 2 ^ 64 → length g.touches ≤ 4 * g.outcome.units
    unfolding one_test
    given_paced g e l =
        let r = run (tree p t b) w in
        let i = given_by b r.sound r.value r.world r.touches r.units g e in
        let u = i.units in
        let k = ap length i.touches in
        let h = test_paced (omega arith) in
        omega arith

    pub test_statics : Writes (IsPut p) (run (tree p t b) w).touches × ((f : ℕ) → (IsPut p f → ⊥) → IsSameStatic (run (tree p t b) w).world w f)
    unfolding tree
    test_statics = let h = whole_well (suc b) (started p t) w in (h.writes, h.same)
