-- What the run of one test gives, from what the machine's steps gave.
use Rattle.std.proofs.Common.{◌≡◌, ℕ, List, [], ◌-◌, Option, Some, None, IfSome, refl, sym, subst, ap, ◌∙◌}
use Rattle.std.specs.Option.{option_map}
use Rattle.jvm_model.specs.declared.{outcome.Outcome.Outcome, outcome.Verdict.Verdict, program.Program.Program, values.Touch.Touch}
use Rattle.jvm_model.specs.{State.State, State.started, Suite.one_test, Suite.tree, World.World}
use Rattle.jvm_model.proofs.Bridges.{touched_is}
use Rattle.type_frames.specs.TypedState.{TypedWorld}
use Rattle.vm_mem.specs.Trace.{Trace, next_test}
use Rattle.vm_interp.specs.{declared.state.State.State as Kept, Reaching.TracesTest, Reaching.given_by}
use Rattle.test_run.specs.Outcomes.{given_in, TracesOne}

-- the outcome of a test that ended with this verdict
abbrev pub outcome_with : Kept → ℕ → Option Verdict → Option Outcome
outcome_with s units v = option_map (λ x. record { verdict = x; output = s.own.output; units = units }) v

given_so : (p : Program) (t : ℕ) (w : World) (b : ℕ) (v : Option Verdict) (s : Kept) (u : World) (left : ℕ) → given_by p t w b v s u left ≡ given_in p t w b (outcome_with s (b - left) v) u
given_so p t w b None s u left = refl
given_so p t w b (Some x) s u left = refl

-- The test begins in the same world: v and n are those after begin_test and of the state.
pub gives_same : (p : Program) (v w : World) (t n b : ℕ) (x : Option Verdict) (s : Kept) (u : World) (left : ℕ) (o : Option Outcome) → v ≡ w → n ≡ t →
    one_test p v n b ≡ given_by p n v b x s u left → o ≡ outcome_with s (b - left) x → one_test p w t b ≡ given_in p t w b o u
gives_same p v w t n b x s u left o f g k h =
    subst (λ (z : World). one_test p z t b ≡ given_in p t z b o u) f
    (subst (λ (z : ℕ). one_test p v z b ≡ given_in p z v b o u) g
    (k ∙ given_so p n v b x s u left ∙ ap (λ (z : Option Outcome). given_in p n v b z u) (sym h)))

module _ {M : Type 0} (follows : M → Trace → List Touch → Type 0) (m0 m1 m2 : M) (p : Program) (w : World) (t b : ℕ)
    (begun : (h : Trace) (ts : List Touch) → follows m0 h ts → follows m1 (next_test h ts t) []) where
  tells_by : (s : Kept) (units : ℕ) (x : Option Verdict) → TracesTest p t w b x follows m1 m2 → IfSome (outcome_with s units x) (λ o. TracesOne p t w b follows m0 m2)
  tells_by s units None tells = tt
  tells_by s units (Some x) tells = λ h ts k. subst (λ (us : List Touch). follows m2 (next_test h ts t) us) (touched_is (tree p t b) w []) (tells refl (next_test h ts t) [] (begun h ts k))

  pub tells_same : (v : World) (n : ℕ) (s : Kept) (units : ℕ) (x : Option Verdict) (o : Option Outcome) → v ≡ w → n ≡ t →
      TracesTest p n v b x follows m1 m2 → o ≡ outcome_with s units x → IfSome o (λ o. TracesOne p t w b follows m0 m2)
  tells_same v n s units x o f g tells h =
      subst (λ (z : Option Outcome). IfSome z (λ o. TracesOne p t w b follows m0 m2)) (sym h)
      (tells_by s units x
      (subst (λ (z : World). TracesTest p t z b x follows m1 m2) f
      (subst (λ (z : ℕ). TracesTest p z v b x follows m1 m2) g tells)))

-- the world that it leaves is typed
pub left_same : (p : Program) (u : World) (s : Kept) (units : ℕ) (x : Option Verdict) (o : Option Outcome) → IfSome x (λ y. TypedWorld p u) → o ≡ outcome_with s units x → IfSome o (λ y. TypedWorld p u)
left_same p u s units None o h k = subst (λ (z : Option Outcome). IfSome z (λ y. TypedWorld p u)) (sym k) tt
left_same p u s units (Some x) o h k = subst (λ (z : Option Outcome). IfSome z (λ y. TypedWorld p u)) (sym k) h

-- a test's state at its start
pub started_same : (p : Program) (s : State) (t n : ℕ) → s ≡ started p t → n ≡ t → s ≡ started p n
started_same p s t n e g = e ∙ ap (λ (z : ℕ). started p z) (sym g)
