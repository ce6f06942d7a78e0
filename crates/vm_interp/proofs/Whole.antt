-- The steps of a test, one after the other.
use Rattle.std.proofs.Common.{◌≡◌, ◌≢◌, ℕ, zero, suc, ◌-◌, ◌<◌, ◌≤◌, List, true, nat_le, refl, sym, ap, ◌∙◌, subst, inl, inr, arith, Option, Some, None, IsSome}
use Rattle.std.proofs.lemmas.Bool.{cases_Bool, leb-true}
use Rattle.jvm_model.specs.declared.values.Touch.{Touch}
use Rattle.jvm_model.specs.declared.outcome.Verdict.{Verdict}
use Rattle.jvm_model.specs.declared.program.Program.{Program}
use Rattle.jvm_model.specs.World.{World, at, put, size, make_object}
use Rattle.jvm_model.specs.Access.{Access, done, read, write, make, spend, bind, Ran, run}
use Rattle.jvm_model.specs.Reached.{Reaches, begins, steps}
use Rattle.jvm_model.specs.State.{State, Turn, next, ended as judged, stuck_turn, started}
use Rattle.jvm_model.specs.Step.{step, turn}
use Rattle.jvm_model.specs.Suite.{finished, after_step, whole, tree, one_test}
use Rattle.jvm_model.specs.View.{over, ended, counted, and_then, touched, IsSafe, IsTurn, Any}
use Rattle.jvm_model.proofs.{Binds.counted_bind, Binds.touched_bind, Budgets.step_costs, Tests.one_test_ended, Tests.one_test_over}
use Rattle.jvm_model.proofs.Bridges.{compared, counted_is, safe_sound}
use Rattle.vm_interp.specs.{Reaching.AllSafe, Reaching.given_by, Abs.abs, Turns.step_outcome, Turns.as_step_outcome}
use Rattle.vm_interp.specs.declared.state.State.{State as Kept}
use Rattle.vm_interp.specs.declared.step_outcome.StepOutcome.TheVariants.{Running, Done, OutOfBudget}

-- a run that ended under a number of units
pub record Ended {A : Type 0} (r : Ran A) (b : ℕ) (a : A) (w : World) (left : ℕ) : Type 0 where
  pub value : r.value ≡ a
  pub world : r.world ≡ w
  pub units : left ≡ b - r.units
  pub within : r.units ≤ b

pub ended_so : {A : Type 0} (r : Ran A) (b : ℕ) (a : A) (w : World) (left : ℕ) → compared r b ≡ ended a w left → Ended r b a w left
ended_so r b a w left e = elim (cases_Bool (nat_le r.units b)) [
  | inr h ↦ let z : over ≡ ended a w left = sym (rw h refl) ∙ e in absurd (cc)
  | inl h ↦
      let z : ended r.value r.world (b - r.units) ≡ ended a w left = sym (rw h refl) ∙ e in
      record { value = (cc); world = (cc); units = (cc); within = leb-true r.units b h }
]

step_ended : (p : Program) (s : State) (w : World) (left : ℕ) (a : Turn) (w' : World) (left' : ℕ) → counted (step p s) w left ≡ ended a w' left' → Ended (run (step p s) w) left a w' left'
step_ended p s w left a w' left' e = ended_so (run (step p s) w) left a w' left' (sym (counted_is (step p s) w left) ∙ e)

-- a step counts at least 1
pub step_falls : (p : Program) (s : State) (w : World) (left : ℕ) (a : Turn) (w' : World) (left' : ℕ) → counted (step p s) w left ≡ ended a w' left' → left' < left
step_falls p s w left a w' left' e =
    let x = step_ended p s w left a w' left' e in
    let c = step_costs p s w in
    let u = x.units in
    let v = x.within in
    omega arith

-- What a test's run is from a state on that its steps came to; f says the touches so far, added to those before.
pub record IsRest (p : Program) (t : ℕ) (v : World) (b : ℕ) (s : State) (w : World) (left : ℕ) (f : List Touch → List Touch) : Type 0 where
  pub fuel : ℕ
  pub more : left < fuel
  pub same : counted (tree p t b) v b ≡ counted (whole p fuel s) w left
  pub reached : Reaches p t v s w
  pub touches : (ts : List Touch) → touched (tree p t b) v ts ≡ touched (whole p fuel s) w (f ts)

at_first : (p : Program) (t : ℕ) (v : World) (b : ℕ) → IsRest p t v b (started p t) v b (λ ts. ts)
unfolding tree
at_first p t v b = record { fuel = suc b; more = omega arith; same = refl; reached = begins; touches = λ ts. refl }

pub rest_at_first : (p : Program) (t : ℕ) (v : World) (b : ℕ) (s : State) → s ≡ started p t → IsRest p t v b s v b (λ ts. ts)
rest_at_first p t v b s e = subst (λ (z : State). IsRest p t v b z v b (λ ts. ts)) (sym e) (at_first p t v b)

module _ (p : Program) (t : ℕ) (v : World) (b : ℕ) (s : State) (w : World) (left : ℕ) (f : List Touch → List Touch) where
  pub goes_by : (n : ℕ) → left < n → (same : counted (tree p t b) v b ≡ counted (whole p n s) w left) → Reaches p t v s w →
      ((ts : List Touch) → touched (tree p t b) v ts ≡ touched (whole p n s) w (f ts)) →
      (u : State) (w' : World) (left' : ℕ) → counted (step p s) w left ≡ ended (next u) w' left' → IsRest p t v b u w' left' (λ ts. touched (step p s) w (f ts))
  goes_by zero h same r touches u w' left' e = absurd (omega arith)
  goes_by (suc m) h same r touches u w' left' e =
      let x = step_ended p s w left (next u) w' left' e in
      let g = step_falls p s w left (next u) w' left' e in
      record {
        fuel = m;
        more = omega arith;
        same = same ∙ counted_bind (step p s) (after_step (λ z. whole p m z)) w left ∙ ap (λ z. and_then z (after_step (λ y. whole p m y))) e;
        reached = subst (λ (z : World). Reaches p t v u z) x.world (steps r x.value);
        touches = λ ts. touches ts ∙ touched_bind (step p s) (after_step (λ z. whole p m z)) w left (next u) w' left' e (f ts);
      }

  ends_by : (n : ℕ) → left < n → counted (tree p t b) v b ≡ counted (whole p n s) w left → (x : Verdict) (o : List ℕ) (w' : World) (left' : ℕ) → counted (step p s) w left ≡ ended (judged x o) w' left' → counted (tree p t b) v b ≡ ended (finished x o) w' left'
  ends_by zero h same x o w' left' e = absurd (omega arith)
  ends_by (suc m) h same x o w' left' e = same ∙ counted_bind (step p s) (after_step (λ z. whole p m z)) w left ∙ ap (λ z. and_then z (after_step (λ y. whole p m y))) e

  touched_by : (n : ℕ) → left < n → ((ts : List Touch) → touched (tree p t b) v ts ≡ touched (whole p n s) w (f ts)) →
      (x : Verdict) (o : List ℕ) (w' : World) (left' : ℕ) → counted (step p s) w left ≡ ended (judged x o) w' left' → (ts : List Touch) → touched (tree p t b) v ts ≡ touched (step p s) w (f ts)
  touched_by zero h touches x o w' left' e ts = absurd (omega arith)
  touched_by (suc m) h touches x o w' left' e ts = touches ts ∙ touched_bind (step p s) (after_step (λ z. whole p m z)) w left (judged x o) w' left' e (f ts)

  over_by : (n : ℕ) → left < n → counted (tree p t b) v b ≡ counted (whole p n s) w left → counted (step p s) w left ≡ over → counted (tree p t b) v b ≡ over
  over_by zero h same e = absurd (omega arith)
  over_by (suc m) h same e = same ∙ counted_bind (step p s) (after_step (λ z. whole p m z)) w left ∙ ap (λ z. and_then z (after_step (λ y. whole p m y))) e

-- no step is made with no unit
pub none_left : (p : Program) (s : State) (w : World) → counted (step p s) w 0 ≡ over
unfolding step
none_left p s w = refl

-- one program after another is safe
safe_both : {A B : Type 0} (G : A → Type 0) (H : B → Type 0) (t : Access A) (k : A → Access B) (w : World) → IsSafe G t w → (G (run t w).value → IsSafe H (k (run t w).value) (run t w).world) → IsSafe H (bind t k) w
safe_both G H (done a) k w g f = f g
safe_both G H (read l h) k w g f = (g.0, safe_both G H (h (at w l)) k w g.1 f)
safe_both G H (write l c rest) k w g f = (g.0, safe_both G H rest k (put w l c) g.1 f)
safe_both G H (make x h) k w g f = safe_both G H (h (size w)) k (make_object w x) g f
safe_both G H (spend n rest) k w g f = safe_both G H rest k w g f

module _ (p : Program) (t : ℕ) (v : World) (all : AllSafe p t v) where
  safe_turn : (n : ℕ) → ((s : State) (w : World) → Reaches p t v s w → IsSafe Any (whole p n s) w) → (s : State) (w : World) → Reaches p t v s w →
      (x : Turn) → turn p s w ≡ x → IsTurn x → IsSafe Any (after_step (λ z. whole p n z) x) (run (step p s) w).world
  safe_turn n f s w r (next u) e g = f u (run (step p s) w).world (steps r e)
  safe_turn n f s w r (judged x o) e g = tt
  safe_turn n f s w r stuck_turn e g = absurd g

  safe_whole : (n : ℕ) (s : State) (w : World) → Reaches p t v s w → IsSafe Any (whole p n s) w
  safe_whole zero s w r = tt
  safe_whole (suc n) s w r = safe_both IsTurn Any (step p s) (after_step (λ z. whole p n z)) w (all s w r).safe (λ g. safe_turn n (λ u y q. safe_whole n u y q) s w r (turn p s w) refl g)

  sound : (b : ℕ) → (run (tree p t b) v).sound ≡ true
  unfolding tree
  sound b = safe_sound Any (whole p (suc b) (started p t)) v (safe_whole (suc b) (started p t) v begins)

  gives_ended : (b : ℕ) (x : Verdict) (s : Kept) (w : World) (left : ℕ) → counted (tree p t b) v b ≡ ended (finished x s.own.output) w left → one_test p v t b ≡ given_by p t v b (Some x) s w left
  gives_ended b x s w left e = one_test_ended p v t b x s.own.output w left (sound b) e

gives_over : (p : Program) (t : ℕ) (v : World) (b : ℕ) → counted (tree p t b) v b ≡ over → one_test p v t b ≡ None
gives_over p t v b e = one_test_over p v t b e

-- no unit is left
pub gives_none : (p : Program) (t : ℕ) (v : World) (b : ℕ) (s : State) (w : World) (left : ℕ) (f : List Touch → List Touch) → IsRest p t v b s w left f → left ≡ 0 → one_test p v t b ≡ None
gives_none p t v b s w left f r e = gives_over p t v b (over_by p t v b s w left f r.fuel r.more r.same (ap (λ (n : ℕ). counted (step p s) w n) e ∙ none_left p s w))

-- A step that the code made, in the same program q, and what it answered.
module _ (p q : Program) (same : q ≡ p) (t : ℕ) (v : World) (b : ℕ) (s : State) (w : World) (left : ℕ) (f : List Touch → List Touch) (r : IsRest p t v b s w left f)
    (o : Option (Option Verdict)) (s' : Kept) (w' : World) (left' : ℕ) (meets : counted (step q s) w left ≡ step_outcome (as_step_outcome o) s' w' left') where
  so : (y : Option (Option Verdict)) → o ≡ y → counted (step p s) w left ≡ step_outcome (as_step_outcome y) s' w' left'
  so y e = ap (λ (z : Program). counted (step z s) w left) (sym same) ∙ meets ∙ ap (λ (z : Option (Option Verdict)). step_outcome (as_step_outcome z) s' w' left') e

  -- the test goes on
  pub goes_on_rest : o ≡ None → IsRest p t v b (abs s') w' left' (λ ts. touched (step q s) w (f ts))
  goes_on_rest e = subst (λ (z : Program). IsRest p t v b (abs s') w' left' (λ ts. touched (step z s) w (f ts))) (sym same)
      (goes_by p t v b s w left f r.fuel r.more r.same r.reached r.touches (abs s') w' left' (so None e))

  pub goes_on_falls : o ≡ None → left' < left
  goes_on_falls e = step_falls p s w left (next (abs s')) w' left' (so None e)

  -- it ended
  gives_by : (all : AllSafe p t v) (y : Option Verdict) → o ≡ Some y → one_test p v t b ≡ given_by p t v b y s' w' left'
  gives_by all None e = gives_over p t v b (over_by p t v b s w left f r.fuel r.more r.same (so (Some None) e))
  gives_by all (Some x) e = gives_ended p t v all b x s' w' left' (ends_by p t v b s w left f r.fuel r.more r.same x s'.own.output w' left' (so (Some (Some x)) e))

  pub gives_so : AllSafe p t v → (y : Option Verdict) → o ≡ Some y → one_test p v t b ≡ given_by p t v b y s' w' left'
  gives_so all y e = gives_by all y e

  pub tells_so : (y : Option Verdict) → o ≡ Some y → IsSome y → (ts : List Touch) → touched (tree p t b) v ts ≡ touched (step q s) w (f ts)
  tells_so None e h ts = absurd (cc)
  tells_so (Some x) e h ts = touched_by p t v b s w left f r.fuel r.more r.touches x s'.own.output w' left' (so (Some (Some x)) e) ts
      ∙ ap (λ (z : Program). touched (step z s) w (f ts)) (sym same)

-- an answer that ends the test isn't over
pub not_over : (o : Option (Option Verdict)) (y : Option Verdict) → o ≡ Some y → IsSome y → as_step_outcome o ≢ OutOfBudget
not_over o None e h k = absurd (cc)
not_over o (Some x) e h k = let z : Done x ≡ OutOfBudget = ap as_step_outcome (sym e) ∙ k in cc

pub goes_not_over : (o : Option (Option Verdict)) → o ≡ None → as_step_outcome o ≢ OutOfBudget
goes_not_over o e k = let z : Running ≡ OutOfBudget = ap as_step_outcome (sym e) ∙ k in cc
