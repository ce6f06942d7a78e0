-- A test gives the same under every budget that its units keep to, and nothing under a smaller one.
use Rattle.std.proofs.Common.{◌≡◌, ℕ, zero, suc, ◌+◌, ◌<◌, ◌≤◌, List, Bool, true, false, ◌&&◌, nat_le, ◌++◌, refl, sym, ◌∙◌, ap, subst, inl, inr, arith, Some, None}
use Rattle.std.proofs.lemmas.Bool.{cases_Bool, leb-true}
use Rattle.jvm_model.specs.{declared.values.Touch.Touch, declared.program.Program.Program, World.World, Access.Ran, Access.run, Step.step}
use Rattle.jvm_model.specs.State.{State, Turn, next, ended, stuck_turn, started}
use Rattle.jvm_model.specs.Suite.{End, finished, stuck, out_of_steps, after_step, whole, tree, Given, given_at, one_test}
use Rattle.jvm_model.proofs.Binds.{run_bind}

-- the run has come to an end of its steps
abbrev pub IsEnd : End → Type 0
IsEnd (finished v o) = Unit {0}
IsEnd stuck = Unit {0}
IsEnd out_of_steps = ⊥

-- the run of a step and the run of what comes after it
abbrev joined : Ran Turn → Ran End → Ran End
joined r s = record { sound = r.sound && s.sound; value = s.value; world = s.world; touches = r.touches ++ s.touches; units = r.units + s.units }

pub step_costs : (p : Program) (s : State) (w : World) → 1 ≤ (run (step p s) w).units
unfolding step
step_costs p s w = omega arith

same_after : (p : Program) (n m : ℕ) → ((t : State) (w : World) → IsEnd (run (whole p n t) w).value → (run (whole p n t) w).units < m → run (whole p m t) w ≡ run (whole p n t) w) →
    (x : Turn) (w : World) → IsEnd (run (after_step (λ t. whole p n t) x) w).value → (run (after_step (λ t. whole p n t) x) w).units < m →
    run (after_step (λ t. whole p m t) x) w ≡ run (after_step (λ t. whole p n t) x) w
same_after p n m f (next t) w e h = f t w e h
same_after p n m f (ended v o) w e h = refl
same_after p n m f stuck_turn w e h = refl

-- More steps change nothing where the end was reached: more than the units are enough.
pub same_end : (p : Program) (n m : ℕ) (s : State) (w : World) → IsEnd (run (whole p n s) w).value → (run (whole p n s) w).units < m → run (whole p m s) w ≡ run (whole p n s) w
same_end p zero m s w e h = absurd e
same_end p (suc n) zero s w e h = absurd (omega arith)
same_end p (suc n) (suc m) s w e h =
    let r = run (step p s) w in
    let a = run (after_step (λ t. whole p n t) r.value) r.world in
    let b = run_bind (step p s) (after_step (λ t. whole p n t)) w in
    let c = run_bind (step p s) (after_step (λ t. whole p m t)) w in
    let u : (run (whole p (suc n) s) w).units ≡ r.units + a.units = ap (λ (x : Ran End). x.units) b in
    let one = step_costs p s w in
    let g : IsEnd a.value = subst (λ (x : End). IsEnd x) (ap (λ (x : Ran End). x.value) b) e in
    let d = same_after p n m (λ t v e' h'. same_end p n m t v e' h') r.value r.world g (omega arith) in
    c ∙ ap (λ (x : Ran End). joined r x) d ∙ sym b

-- what an outcome says of its run
record Found (b : ℕ) (sound : Bool) (e : End) (w : World) (ts : List Touch) (u : ℕ) (x : Given) : Type 0 where
  pub is_end : IsEnd e
  pub units : x.outcome.units ≡ u
  pub within : u ≤ b
  pub any : (c : ℕ) → u ≤ c → given_at c sound e w ts u ≡ Some x

le_nat : (u c : ℕ) → u ≤ c → nat_le u c ≡ true
le_nat u c h = grind arith

found : (b : ℕ) (sound : Bool) (e : End) (w : World) (ts : List Touch) (u : ℕ) (x : Given) → given_at b sound e w ts u ≡ Some x → Found b sound e w ts u x
found b false e w ts u x g = absurd (cc)
found b true stuck w ts u x g = absurd (cc)
found b true out_of_steps w ts u x g = absurd (cc)
found b true (finished v o) w ts u x g = elim (cases_Bool (nat_le u b)) [
  | inr h ↦ let z : None ≡ Some x = sym (rw h refl) ∙ g in absurd (cc)
  | inl h ↦
      let y : Given = record { outcome = record { verdict = v; output = o; units = u }; world = w; touches = ts } in
      let z : Some y ≡ Some x = sym (rw h refl) ∙ g in
      let q : y ≡ x = cc in
      record {
        is_end = tt;
        units = sym (ap (λ (k : Given). k.outcome.units) q);
        within = leb-true u b h;
        any = λ c k. (let a : given_at c true (finished v o) w ts u ≡ Some y = rw (le_nat u c k) refl in a ∙ z);
      }
]

-- where a test gives something under a budget, it gives the same under each budget that its units keep to
pub one_test_within : (p : Program) (w : World) (t b c : ℕ) (x : Given) → one_test p w t b ≡ Some x → x.outcome.units ≤ c → one_test p w t c ≡ Some x
unfolding one_test tree
one_test_within p w t b c x e h =
    let r = run (whole p (suc b) (started p t)) w in
    let f = found b r.sound r.value r.world r.touches r.units x e in
    let u = f.units in
    let d : run (whole p (suc c) (started p t)) w ≡ r = same_end p (suc b) (suc c) (started p t) w f.is_end (omega arith) in
    ap (λ (z : Ran End). given_at c z.sound z.value z.world z.touches z.units) d ∙ f.any c (omega arith)

-- its units keep to the budget
pub one_test_units : (p : Program) (w : World) (t b : ℕ) (x : Given) → one_test p w t b ≡ Some x → x.outcome.units ≤ b
unfolding one_test
one_test_units p w t b x e = let r = run (tree p t b) w in let f = found b r.sound r.value r.world r.touches r.units x e in let u = f.units in let v = f.within in omega arith
