-- What is left of a step that runs a built-in method.
use Rattle.std.proofs.Common.{◌≡◌, ℕ, List, Bool, true, false, not, Option, Some, is_some, refl, sym, ap, ◌∙◌, subst, Result}
use Rattle.std.proofs.lemmas.Result.{IfOk-weaker}
use Rattle.jvm_model.specs.declared.values.{Value.Value, Touch.Touch}
use Rattle.jvm_model.specs.declared.library.Native.{Native}
use Rattle.jvm_model.specs.declared.outcome.Next.{Next}
use Rattle.jvm_model.specs.declared.outcome.Next.TheVariants.{Go, Fault, Raise, Enter, Leave, Over}
use Rattle.jvm_model.specs.declared.program.Program.{Program}
use Rattle.jvm_model.specs.{World.World, Access.Access, Access.spend, Classes.method_at, Natives.row_native, Rows.Answer, Rows.answer, State.State, State.next}
use Rattle.jvm_model.specs.{Step.after_native, Step.entered, Throwing.throws, Working.Working}
use Rattle.jvm_model.specs.View.{over, ended, counted, and_then, paid, counts_one, touched, IsSafe, IsTurn}
use Rattle.jvm_model.proofs.Binds.{counted_bind, touched_bind, safe_rest}
use Rattle.jvm_model.proofs.{Bridges.spent_later, Steps.safe_native}
use Rattle.vm_mem.specs.Refines.{IsReady, Refines, Traces}
use Rattle.vm_mem.specs.Trace.{Trace}
use Rattle.vm_natives.specs.Rows.{with_own, native_row}
use Rattle.vm_interp.specs.{Driving.throw_part, Abs.abs}
use Rattle.vm_interp.specs.Turns.{IsFit, EndsPart, MakesPart, after, builtin_part}
use Rattle.vm_interp.specs.declared.state.State.{State as Kept}
use Rattle.vm_interp.specs.declared.step_outcome.{StepOutcome.StepOutcome, StepOutcome.TheVariants.Running, StepOutcome.TheVariants.OutOfBudget as Spent}

-- the method that is entered is this built-in one
pub enters_native : (p q : Program) (x : Native) (m : ℕ) (s : State) → q ≡ p → (method_at q m).native ≡ Some x → after (Enter m) p s ≡ builtin_part x p s
enters_native p q x m s e h =
    ap (λ (o : Option Native). paid (not (not (is_some o))) (entered p s o s.entries)) (ap (λ (r : Program). (method_at r m).native) (sym e) ∙ h)

pub native_ready : {M : Type 0} (x : Native) (p : Program) (program : M → Program) (world : M → World) (m : M) (s : Kept) → IsFit (builtin_part x) p program world m s → IsReady (native_row x) p program world m (with_own s.frames s.own)
native_ready x p program world m s h = (h.0, safe_native p (abs s) (row_native p x (with_own s.frames s.own)) (world m) h.1)

module _ {M : Type 0} (program : M → Program) (world : M → World) (follows : M → Trace → List Touch → Type 0)
    (x : Native) (m0 m1 m2 : M) (s : State) (t : Working) (left left1 : ℕ) (y : Next)
    (of : program m1 ≡ program m0) (meets : Refines (native_row x) (program m0) (world m0) (with_own s.entries s.own) left y t (world m1) left1) where
  abbrev method : Access (Answer Working)
  method = row_native (program m0) x (with_own s.entries s.own)

  abbrev then : State
  then = record s { entries = t.entries; own = t.own }

  met : (z : Next) → y ≡ z → Refines (native_row x) (program m0) (world m0) (with_own s.entries s.own) left z t (world m1) left1
  met z e = subst (λ (z : Next). Refines (native_row x) (program m0) (world m0) (with_own s.entries s.own) left z t (world m1) left1) e meets

  over_native : y ≡ Over → counted (builtin_part x (program m0) s) (world m0) left ≡ over
  over_native e = counted_bind (spend 1 method) (after_native (program m0) s) (world m0) left ∙ ap (λ z. and_then z (after_native (program m0) s)) (met Over e)

  go_native : y ≡ Go → counted (builtin_part x (program m0) s) (world m0) left ≡ ended (next then) (world m1) left1
  go_native e = counted_bind (spend 1 method) (after_native (program m0) s) (world m0) left ∙ ap (λ z. and_then z (after_native (program m0) s)) (met Go e)

  go_tells : y ≡ Go → Traces (native_row x) (program m0) (world m0) (with_own s.entries s.own) y follows m0 m1 → (h : Trace) (ts : List Touch) → follows m0 h ts → follows m1 h (touched (builtin_part x (program m0) s) (world m0) ts)
  go_tells e told h ts k = subst (λ (us : List Touch). follows m1 h us)
      (sym (touched_bind (spend 1 method) (after_native (program m0) s) (world m0) left (answer Go t) (world m1) left1 (met Go e) ts))
      (told (λ q. let z : Go ≡ Over = sym e ∙ q in cc) h ts k)

  fault_native : (c : ℕ) → y ≡ Fault c → counted (builtin_part x (program m0) s) (world m0) left ≡ counted (spend 1 (throws (program m1) c then)) (world m1) left1
  fault_native c e = spent_later 1 method (after_native (program m0) s) (world m0) left (answer (Fault c) t) (world m1) left1 (met (Fault c) e)
      ∙ ap (λ (p : Program). counted (spend 1 (throws p c then)) (world m1) left1) (sym of)

  fault_tells : (c : ℕ) → y ≡ Fault c → Traces (native_row x) (program m0) (world m0) (with_own s.entries s.own) y follows m0 m1 →
      ((h : Trace) (ts : List Touch) → follows m1 h ts → follows m2 h (touched (throws (program m1) c then) (world m1) ts)) →
      (h : Trace) (ts : List Touch) → follows m0 h ts → follows m2 h (touched (builtin_part x (program m0) s) (world m0) ts)
  fault_tells c e told f h ts k = subst (λ (us : List Touch). follows m2 h us)
      (ap (λ (p : Program). touched (throws p c then) (world m1) (touched method (world m0) ts)) of
      ∙ sym (touched_bind method (after_native (program m0) s) (world m0) left (answer (Fault c) t) (world m1) left1 (met (Fault c) e) ts))
      (f h (touched method (world m0) ts) (told (λ q. let z : Fault c ≡ Over = sym e ∙ q in cc) h ts k))

  -- a built-in method ends in no other way
  pub not_raise : (v : Value) → y ≡ Raise v → IsSafe IsTurn (builtin_part x (program m0) s) (world m0) → ⊥
  not_raise v e h = safe_rest IsTurn (spend 1 method) (after_native (program m0) s) (world m0) left (answer (Raise v) t) (world m1) left1 (met (Raise v) e) h

  pub not_leave : y ≡ Leave → IsSafe IsTurn (builtin_part x (program m0) s) (world m0) → ⊥
  not_leave e h = safe_rest IsTurn (spend 1 method) (after_native (program m0) s) (world m0) left (answer Leave t) (world m1) left1 (met Leave e) h

  entered_in : (m : ℕ) (b : Bool) → counted (paid b method) (world m0) left ≡ ended (answer (Enter m) t) (world m1) left1 → IsSafe IsTurn (builtin_part x (program m0) s) (world m0) → ⊥
  entered_in m true q h = safe_rest IsTurn (spend 1 method) (after_native (program m0) s) (world m0) left (answer (Enter m) t) (world m1) left1 q h
  entered_in m false q h = safe_rest IsTurn method (after_native (program m0) s) (world m0) left (answer (Enter m) t) (world m1) left1 q h

  pub not_enter : (m : ℕ) → y ≡ Enter m → IsSafe IsTurn (builtin_part x (program m0) s) (world m0) → ⊥
  not_enter m e h = entered_in m (counts_one (program m0) (Enter m)) (met (Enter m) e) h

-- A call that runs the method answered y: the whole step then, by what it goes on with.
module _ {M : Type 0} (program : M → Program) (world : M → World) (follows : M → Trace → List Touch → Type 0)
    (x : Native) (m0 m1 : M) (s : Kept) (t : Working) (left left1 : ℕ) (y : Next)
    (of : program m1 ≡ program m0) (meets : Refines (native_row x) (program m0) (world m0) (with_own s.frames s.own) left y t (world m1) left1)
    (told : Traces (native_row x) (program m0) (world m0) (with_own s.frames s.own) y follows m0 m1) where
  pub made_go : y ≡ Go → (program m1 ≡ program m0) × EndsPart (builtin_part x) program world follows m0 m1 s left Running (record s { frames = t.entries; own = t.own }) left1
  made_go e = (of, (go_native program world follows x m0 m1 m1 (abs s) t left left1 y of meets e, λ n h ts k. go_tells program world follows x m0 m1 m1 (abs s) t left left1 y of meets e told h ts k))

  pub made_fault : {E : Type 0} → (c : ℕ) → y ≡ Fault c → (m2 : M) (a : Result StepOutcome E) (s2 : Kept) (left2 : ℕ) → MakesPart (throw_part c) program world follows m1 m2 (record s { frames = t.entries; own = t.own }) left1 a s2 left2
      → MakesPart (builtin_part x) program world follows m0 m2 s left a s2 left2
  made_fault c e m2 a s2 left2 b = (
    b.0 ∙ of,
    IfOk-weaker a _ _ (λ r z. (
      fault_native program world follows x m0 m1 m2 (abs s) t left left1 y of meets c e ∙ z.0,
      λ n h ts k. fault_tells program world follows x m0 m1 m2 (abs s) t left left1 y of meets c e told (z.1 n) h ts k,
    )) b.1,
  )

  pub made_spent : y ≡ Over → (s2 : Kept) (left2 : ℕ) → (program m1 ≡ program m0) × EndsPart (builtin_part x) program world follows m0 m1 s left Spent s2 left2
  made_spent e s2 left2 = (of, (over_native program world follows x m0 m1 m1 (abs s) t left left1 y of meets e, λ n. absurd (n refl)))
