-- Steps that lead from one state to another, as the first part of a run of a whole test.
use Rattle.std.proofs.Common.{◌≡◌, ℕ, zero, suc, ◌+◌, ◌≤◌, true, refl, sym, ◌∙◌, ap, subst, arith}
use Rattle.std.proofs.lemmas.Bool.{and_parts}
use Rattle.jvm_model.specs.{declared.program.Program.Program, World.World, Access.Ran, Access.run, Step.step, Step.turn, State.State, State.Turn, State.next}
use Rattle.jvm_model.specs.Suite.{End, after_step, whole}
use Rattle.jvm_model.proofs.Binds.{run_bind}
use Rattle.quiet_init.specs.StillLaw.{Leads, there, one_more}

-- the second run is what is left of the first: it ends alike, and costs no more
pub record IsRest (q r : Ran End) : Type 0 where
  pub value : q.value ≡ r.value
  pub world : q.world ≡ r.world
  pub units : r.units ≤ q.units
  pub sound : q.sound ≡ true → r.sound ≡ true

rest_itself : (r : Ran End) → IsRest r r
rest_itself r = record { value = refl; world = refl; units = omega arith; sound = λ e. e }

rest_then : (q r s : Ran End) → IsRest q r → IsRest r s → IsRest q s
rest_then q r s a b = record { value = a.value ∙ b.value; world = a.world ∙ b.world; units = (let x = a.units in let y = b.units in omega arith); sound = λ e. b.sound (a.sound e) }

pub one_step : (p : Program) (k : ℕ) (s t : State) (w : World) → turn p s w ≡ next t → IsRest (run (whole p (suc k) s) w) (run (whole p k t) (run (step p s) w).world)
one_step p k s t w e =
    let r = run (step p s) w in
    let b = run_bind (step p s) (after_step (λ u. whole p k u)) w in
    let z : run (after_step (λ u. whole p k u) r.value) r.world ≡ run (whole p k t) r.world = ap (λ (x : Turn). run (after_step (λ u. whole p k u) x) r.world) e in
    let n = ap (λ (x : Ran End). x.units) b in
    let m = ap (λ (x : Ran End). x.units) z in
    record {
      value = ap (λ (x : Ran End). x.value) b ∙ ap (λ (x : Ran End). x.value) z;
      world = ap (λ (x : Ran End). x.world) b ∙ ap (λ (x : Ran End). x.world) z;
      units = omega arith;
      sound = λ h. sym (ap (λ (x : Ran End). x.sound) z) ∙ (and_parts r.sound (run (after_step (λ u. whole p k u) r.value) r.world).sound (sym (ap (λ (x : Ran End). x.sound) b) ∙ h)).1;
    }

module _ (p : Program) where
  pub rest_of : {k : ℕ} {s u : State} {w v : World} → Leads p k s w u v → (m n : ℕ) → m ≡ k + n → IsRest (run (whole p m s) w) (run (whole p n u) v)
  rest_of {s = s} {w = w} there m n e = let z : m ≡ n = omega arith in subst (λ (i : ℕ). IsRest (run (whole p m s) w) (run (whole p i s) w)) z (rest_itself (run (whole p m s) w))
  rest_of (one_more h l) zero n e = absurd (omega arith)
  rest_of {s = s} {u = u} {w = w} {v = v} (one_more {t = t} h l) (suc m) n e =
      rest_then (run (whole p (suc m) s) w) (run (whole p m t) (run (step p s) w).world) (run (whole p n u) v) (one_step p m s t w h) (rest_of l m n (omega arith))
