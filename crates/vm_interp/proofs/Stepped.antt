-- A step by its row and what comes after it.
use Rattle.std.proofs.Common.{◌≡◌, ◌≢◌, ℕ, List, Bool, true, false, not, refl, sym, ap, ◌∙◌, subst, Option, Some, None, Result}
use Rattle.std.proofs.Math.Path.{fun_ext}
use Rattle.std.proofs.lemmas.Result.{IfOk-weaker}
use Rattle.jvm_model.specs.declared.values.Touch.{Touch}
use Rattle.jvm_model.specs.declared.library.Native.{Native}
use Rattle.jvm_model.specs.declared.outcome.Next.{Next}
use Rattle.jvm_model.specs.declared.outcome.Next.TheVariants.{Go, Fault, Raise, Enter, Leave, Over}
use Rattle.jvm_model.specs.declared.program.Program.{Program}
use Rattle.jvm_model.specs.{World.World, Access.Access, Access.bind, Classes.method_at, Entries.Entries, Natives.row_native, State.State, State.Turn}
use Rattle.jvm_model.specs.Rows.{Answer, answer, stuck_row}
use Rattle.jvm_model.specs.Step.{after_native, entered, after_row}
use Rattle.jvm_model.specs.View.{over, ended, counted, paid, counts_one, outcome, touched, IsSafe, IsTurn}
use Rattle.jvm_model.specs.Working.{Working}
use Rattle.jvm_model.proofs.Steps.{safe_row, step_paid, step_over, step_touches, step_safe}
use Rattle.vm_mem.specs.Refines.{Row, IsReady, Refines, Traces}
use Rattle.vm_mem.specs.Trace.{Trace}
use Rattle.vm_interp.specs.Abs.{abs}
use Rattle.vm_interp.specs.Turns.{Part, IsFit, EndsPart, MakesPart, by_row, after}
use Rattle.vm_interp.specs.declared.state.State.{State as Kept}
use Rattle.vm_interp.specs.declared.step_outcome.{StepOutcome.StepOutcome, StepOutcome.TheVariants.OutOfBudget as Spent}

pub answered : (x : Next) (s : Entries) (w : World) (left : ℕ) → x ≢ Over → outcome x s w left ≡ ended (answer x s) w left
answered Over s w left h = absurd (h refl)
answered _ s w left h = refl

-- what comes after a row asks nothing of the entries before it
module _ (p : Program) (s : State) (t : Entries) where
  native_after : (a : Answer Working) → after_native p s a ≡ after_native p (record s { entries = t }) a
  native_after stuck_row = refl
  native_after _ = refl

  entered_after : (o : Option Native) → entered p s o t ≡ entered p (record s { entries = t }) o t
  entered_after None = refl
  entered_after (Some x) = ap (λ k. bind (row_native p x (record { entries = t; own = s.own })) k) (fun_ext native_after)

  after_same : (x : Next) → after_row p s (answer x t) ≡ after_row p (record s { entries = t }) (answer x t)
  after_same (Enter m) = entered_after (method_at p m).native
  after_same _ = refl

paid_safe : (b : Bool) (t : Access Turn) (w : World) → IsSafe IsTurn t w → IsSafe IsTurn (paid b t) w
paid_safe true t w h = h
paid_safe false t w h = h

paid_touched : (b : Bool) (t : Access Turn) (w : World) (ts : List Touch) → touched (paid b t) w ts ≡ touched t w ts
paid_touched true t w ts = refl
paid_touched false t w ts = refl

-- where the step may be made, the row may
pub row_ready : {M : Type 0} (r : Row Entries) (p : Program) (program : M → Program) (world : M → World) (m : M) (s : Kept) → IsFit (by_row r) p program world m s → IsReady r p program world m s.frames
row_ready r p program world m s h = (h.0, safe_row p (abs s) (r p s.frames) (world m) h.1)

module _ (r : Row Entries) (p : Program) (w : World) (s : State) where
  module _ (left : ℕ) (t : Entries) (w' : World) (left' : ℕ) where
    pub row_over : Refines r p w s.entries left Over t w' left' → counted (by_row r p s) w left ≡ over
    row_over e = step_over p s (r p s.entries) w left e

    module _ (x : Next) (h : x ≢ Over) (e : Refines r p w s.entries left x t w' left') where
      pub row_fit : IsSafe IsTurn (by_row r p s) w → IsSafe IsTurn (after x p (record s { entries = t })) w'
      row_fit k = paid_safe (not (counts_one p x)) _ w' (subst (λ (u : Access Turn). IsSafe IsTurn u w') (after_same p s t x)
          (step_safe p s (counts_one p x) (r p s.entries) w left (answer x t) w' left' (e ∙ answered x t w' left' h) k))

      pub row_counted : counted (by_row r p s) w left ≡ counted (after x p (record s { entries = t })) w' left'
      row_counted = step_paid p s (counts_one p x) (r p s.entries) w left (answer x t) w' left' (e ∙ answered x t w' left' h)
          ∙ ap (λ (u : Access Turn). counted (paid (not (counts_one p x)) u) w' left') (after_same p s t x)

      pub row_touches : (ts : List Touch) → touched (by_row r p s) w ts ≡ touched (after x p (record s { entries = t })) w' (touched (r p s.entries) w ts)
      row_touches ts = step_touches p s (counts_one p x) (r p s.entries) w left (answer x t) w' left' (e ∙ answered x t w' left' h) ts
          ∙ ap (λ (u : Access Turn). touched u w' (touched (r p s.entries) w ts)) (after_same p s t x)
          ∙ sym (paid_touched (not (counts_one p x)) _ w' (touched (r p s.entries) w ts))

-- The same of a memory before and after the row, and after the whole step: the call of the row answered x.
module _ {M : Type 0} (program : M → Program) (world : M → World) (follows : M → Trace → List Touch → Type 0)
    (r : Row Entries) (m0 m1 : M) (s : Kept) (t : Entries) (left left1 : ℕ) (x : Next)
    (of : program m1 ≡ program m0) (meets : Refines r (program m0) (world m0) s.frames left x t (world m1) left1)
    (told : Traces r (program m0) (world m0) s.frames x follows m0 m1) where
  pub met_in : (p : Program) → p ≡ program m0 → Refines r p (world m0) s.frames left x t (world m1) left1
  met_in p e = subst (λ (q : Program). Refines r q (world m0) s.frames left x t (world m1) left1) (sym e) meets

  pub made_over : x ≡ Over → (s' : Kept) (left' : ℕ) → (program m1 ≡ program m0) × EndsPart (by_row r) program world follows m0 m1 s left Spent s' left'
  made_over e s' left' =
      (of, (row_over r (program m0) (world m0) (abs s) left t (world m1) left1 (subst (λ (y : Next). Refines r (program m0) (world m0) s.frames left y t (world m1) left1) e meets), λ n. absurd (n refl)))

  module _ (h : x ≢ Over) where
    pub fit_after : (p : Program) → IsFit (by_row r) p program world m0 s → IsFit (after x) p program world m1 (record s { frames = t })
    fit_after p k = (k.0 ∙ sym of, row_fit r p (world m0) (abs s) left t (world m1) left1 x h (met_in p k.0) k.1)

    counts_row : counted (by_row r (program m0) (abs s)) (world m0) left ≡ counted (after x (program m1) (record (abs s) { entries = t })) (world m1) left1
    counts_row = row_counted r (program m0) (world m0) (abs s) left t (world m1) left1 x h meets ∙ ap (λ (p : Program). counted (after x p (record (abs s) { entries = t })) (world m1) left1) (sym of)

    touches_row : (ts : List Touch) → touched (by_row r (program m0) (abs s)) (world m0) ts ≡ touched (after x (program m1) (record (abs s) { entries = t })) (world m1) (touched (r (program m0) s.frames) (world m0) ts)
    touches_row ts = row_touches r (program m0) (world m0) (abs s) left t (world m1) left1 x h meets ts
        ∙ ap (λ (p : Program). touched (after x p (record (abs s) { entries = t })) (world m1) (touched (r (program m0) s.frames) (world m0) ts)) (sym of)

    -- and what comes after it
    pub made_row : {E : Type 0} (m2 : M) (a : Result StepOutcome E) (s2 : Kept) (left2 : ℕ) → MakesPart (after x) program world follows m1 m2 (record s { frames = t }) left1 a s2 left2
        → MakesPart (by_row r) program world follows m0 m2 s left a s2 left2
    made_row m2 a s2 left2 k = (k.0 ∙ of, IfOk-weaker a _ _ (λ y b. (counts_row ∙ b.0, λ n g ts f. subst (λ (us : List Touch). follows m2 g us) (sym (touches_row ts)) (b.1 n g (touched (r (program m0) s.frames) (world m0) ts) (told h g ts f)))) k.1)

-- what a part asks, in the memory's own program
pub fit_own : {M : Type 0} (a : Part) (p : Program) (program : M → Program) (world : M → World) (m : M) (s : Kept) → IsFit a p program world m s → IsSafe IsTurn (a (program m) (abs s)) (world m)
fit_own a p program world m s h = subst (λ (q : Program). IsSafe IsTurn (a q (abs s)) (world m)) h.0 h.1

-- a part that is another one here
pub same_part : {M E : Type 0} (program : M → Program) (world : M → World) (follows : M → Trace → List Touch → Type 0) (a b : Part) (m0 m1 : M) (s : Kept) (left : ℕ) (r : Result StepOutcome E) (s1 : Kept) (left1 : ℕ)
    → a (program m0) (abs s) ≡ b (program m0) (abs s) → MakesPart b program world follows m0 m1 s left r s1 left1 → MakesPart a program world follows m0 m1 s left r s1 left1
same_part program world follows a b m0 m1 s left r s1 left1 e k = (
  k.0,
  IfOk-weaker r _ _ (λ y z. (
    ap (λ (t : Access Turn). counted t (world m0) left) e ∙ z.0,
    λ n h ts q. subst (λ (t : Access Turn). follows m1 h (touched t (world m0) ts)) (sym e) (z.1 n h ts q),
  )) k.1,
)
