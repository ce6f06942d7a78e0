-- A step of the driver that uses a class, by how the use went.
use Rattle.std.proofs.Common.{◌≡◌, ◌≢◌, ℕ, List, [], Bool, true, false, cond, None, refl, sym, ap, ◌∙◌, subst, Result}
use Rattle.std.proofs.lemmas.Result.{IfOk-weaker}
use Rattle.jvm_model.specs.declared.values.Touch.{Touch}
use Rattle.jvm_model.specs.declared.program.{Program.Program, TestEntry.TestEntry}
use Rattle.jvm_model.specs.{World.World, Classes.method_at, Classes.is_static, Entries.Entries, Throwing.throws}
use Rattle.jvm_model.specs.Access.{Access, spend, bind}
use Rattle.jvm_model.specs.declared.state.Stage.TheVariants.{Last}
use Rattle.jvm_model.specs.Driver.{once_driven, drive_first, drives, makes}
use Rattle.jvm_model.specs.Rows.{ready, begun, refused, begin}
use Rattle.jvm_model.specs.State.{State, Turn, next, with_entries, test_at}
use Rattle.jvm_model.specs.View.{over, ended, counted, and_then, touched, IsSafe, IsTurn, Any}
use Rattle.vm_mem.specs.Trace.{Trace}
use Rattle.class_init.specs.declared.uses.{Use.Use, Use.TheVariants.Ready, Use.TheVariants.Begun, Use.TheVariants.Fault, Use.TheVariants.Over}
use Rattle.class_init.specs.Uses.{RefinesUse, TracesUse}
use Rattle.vm_interp.specs.{Driving.throw_part, Abs.abs}
use Rattle.vm_interp.specs.Turns.{Part, EndsPart, MakesPart}
use Rattle.vm_interp.specs.declared.state.State.{State as Kept}
use Rattle.vm_interp.specs.declared.step_outcome.{StepOutcome.StepOutcome, StepOutcome.TheVariants.Running, StepOutcome.TheVariants.OutOfBudget as Spent}
use Rattle.jvm_model.proofs.Binds.{counted_bind, touched_bind, safe_begins}
use Rattle.jvm_model.proofs.Bridges.{spent_later}

module _ (p : Program) (c : ℕ) (s : State) (k : Access Turn) (w : World) where
  pub use_safe : IsSafe IsTurn (spend 1 (bind (begin p c s.entries) (once_driven p s k))) w → IsSafe Any (begin p c s.entries) w
  use_safe h = safe_begins IsTurn (begin p c s.entries) (once_driven p s k) w h

  module _ (left : ℕ) (w' : World) (left' : ℕ) where
    -- the class may be used: the driver goes on
    pub driven_ready : counted (begin p c s.entries) w left ≡ ended ready w' left' → counted (spend 1 (bind (begin p c s.entries) (once_driven p s k))) w left ≡ counted (spend 1 k) w' left'
    driven_ready e = spent_later 1 (begin p c s.entries) (once_driven p s k) w left ready w' left' e

    pub ready_touches : counted (begin p c s.entries) w left ≡ ended ready w' left' → (ts : List Touch) → touched (spend 1 (bind (begin p c s.entries) (once_driven p s k))) w ts ≡ touched (spend 1 k) w' (touched (begin p c s.entries) w ts)
    ready_touches e ts = touched_bind (begin p c s.entries) (once_driven p s k) w left ready w' left' e ts

    -- its initialisation was begun: the step is made
    pub driven_begun : (t : Entries) → counted (spend 1 (begin p c s.entries)) w left ≡ ended (begun t) w' left' → counted (spend 1 (bind (begin p c s.entries) (once_driven p s k))) w left ≡ ended (next (with_entries s t)) w' left'
    driven_begun t e = counted_bind (spend 1 (begin p c s.entries)) (once_driven p s k) w left ∙ ap (λ x. and_then x (once_driven p s k)) e

    pub begun_touches : (t : Entries) → counted (spend 1 (begin p c s.entries)) w left ≡ ended (begun t) w' left' → (ts : List Touch) → touched (spend 1 (bind (begin p c s.entries) (once_driven p s k))) w ts ≡ touched (begin p c s.entries) w ts
    begun_touches t e ts = touched_bind (spend 1 (begin p c s.entries)) (once_driven p s k) w left (begun t) w' left' e ts

    -- the step throws
    pub driven_refused : (d : ℕ) → counted (begin p c s.entries) w left ≡ ended (refused d) w' left' → counted (spend 1 (bind (begin p c s.entries) (once_driven p s k))) w left ≡ counted (spend 1 (throws p d s)) w' left'
    driven_refused d e = spent_later 1 (begin p c s.entries) (once_driven p s k) w left (refused d) w' left' e

    pub refused_touches : (d : ℕ) → counted (begin p c s.entries) w left ≡ ended (refused d) w' left' → (ts : List Touch) → touched (spend 1 (bind (begin p c s.entries) (once_driven p s k))) w ts ≡ touched (spend 1 (throws p d s)) w' (touched (begin p c s.entries) w ts)
    refused_touches d e ts = touched_bind (begin p c s.entries) (once_driven p s k) w left (refused d) w' left' e ts

  pub driven_over : (left : ℕ) → counted (spend 1 (begin p c s.entries)) w left ≡ over → counted (spend 1 (bind (begin p c s.entries) (once_driven p s k))) w left ≡ over
  driven_over left e = counted_bind (spend 1 (begin p c s.entries)) (once_driven p s k) w left ∙ ap (λ x. and_then x (once_driven p s k)) e

-- the same of a memory before and after the use, and after the whole step
module _ {M : Type 0} (program : M → Program) (world : M → World) (follows : M → Trace → List Touch → Type 0)
    (k : Program → State → Access Turn) (c : ℕ) (m0 m1 m2 : M) (s : State) (t : Entries) (left left1 : ℕ) (u : Use)
    (of : program m1 ≡ program m0) (meets : RefinesUse c (program m0) (world m0) s.entries left u t (world m1) left1)
    (told : TracesUse c (program m0) (world m0) s.entries u follows m0 m1) (same : u ≢ Begun → t ≡ s.entries) where
  abbrev part : Access Turn
  part = spend 1 (bind (begin (program m0) c s.entries) (once_driven (program m0) s (k (program m0) s)))

  moved : u ≢ Begun → (f : Program → State → Access Turn) → f (program m1) (record s { entries = t }) ≡ f (program m0) s
  moved n f = ap (λ (p : Program). f p (record s { entries = t })) of ∙ ap (λ (v : Entries). f (program m0) (record s { entries = v })) (same n)

  ready_not : u ≡ Ready → u ≢ Begun
  ready_not e h = cc

  refused_not : (d : ℕ) → u ≡ Fault d → u ≢ Begun
  refused_not d e h = cc

  at : (y : Use) → u ≡ y → RefinesUse c (program m0) (world m0) s.entries left y t (world m1) left1
  at y e = subst (λ (y : Use). RefinesUse c (program m0) (world m0) s.entries left y t (world m1) left1) e meets

  ready_counts : u ≡ Ready → counted part (world m0) left ≡ counted (spend 1 (k (program m1) (record s { entries = t }))) (world m1) left1
  ready_counts e = driven_ready (program m0) c s (k (program m0) s) (world m0) left (world m1) left1 (at Ready e)
      ∙ ap (λ (a : Access Turn). counted (spend 1 a) (world m1) left1) (sym (moved (ready_not e) k))

  ready_tells : u ≡ Ready → ((h : Trace) (ts : List Touch) → follows m1 h ts → follows m2 h (touched (k (program m1) (record s { entries = t })) (world m1) ts)) →
      (h : Trace) (ts : List Touch) → follows m0 h ts → follows m2 h (touched part (world m0) ts)
  ready_tells e f h ts q = subst (λ (us : List Touch). follows m2 h us)
      (ap (λ (a : Access Turn). touched a (world m1) (touched (begin (program m0) c s.entries) (world m0) ts)) (moved (ready_not e) k)
      ∙ sym (ready_touches (program m0) c s (k (program m0) s) (world m0) left (world m1) left1 (at Ready e) ts))
      (f h (touched (begin (program m0) c s.entries) (world m0) ts) (told (λ x. absurd (cc)) h ts q))

  begun_counts : u ≡ Begun → counted part (world m0) left ≡ ended (next (with_entries s t)) (world m1) left1
  begun_counts e = driven_begun (program m0) c s (k (program m0) s) (world m0) left (world m1) left1 t (at Begun e)

  begun_tells : u ≡ Begun → (h : Trace) (ts : List Touch) → follows m0 h ts → follows m1 h (touched part (world m0) ts)
  begun_tells e h ts q = subst (λ (us : List Touch). follows m1 h us)
      (sym (begun_touches (program m0) c s (k (program m0) s) (world m0) left (world m1) left1 t (at Begun e) ts)) (told (λ x. absurd (cc)) h ts q)

  refused_counts : (d : ℕ) → u ≡ Fault d → counted part (world m0) left ≡ counted (spend 1 (throws (program m1) d (record s { entries = t }))) (world m1) left1
  refused_counts d e = driven_refused (program m0) c s (k (program m0) s) (world m0) left (world m1) left1 d (at (Fault d) e)
      ∙ ap (λ (a : Access Turn). counted (spend 1 a) (world m1) left1) (sym (moved (refused_not d e) (λ p v. throws p d v)))

  refused_tells : (d : ℕ) → u ≡ Fault d → ((h : Trace) (ts : List Touch) → follows m1 h ts → follows m2 h (touched (throws (program m1) d (record s { entries = t })) (world m1) ts)) →
      (h : Trace) (ts : List Touch) → follows m0 h ts → follows m2 h (touched part (world m0) ts)
  refused_tells d e f h ts q = subst (λ (us : List Touch). follows m2 h us)
      (ap (λ (a : Access Turn). touched a (world m1) (touched (begin (program m0) c s.entries) (world m0) ts)) (moved (refused_not d e) (λ p v. throws p d v))
      ∙ sym (refused_touches (program m0) c s (k (program m0) s) (world m0) left (world m1) left1 d (at (Fault d) e) ts))
      (f h (touched (begin (program m0) c s.entries) (world m0) ts) (told (λ x. absurd (cc)) h ts q))

  over_counts : u ≡ Over → counted part (world m0) left ≡ over
  over_counts e = driven_over (program m0) c s (k (program m0) s) (world m0) left (at Over e)

-- A call that uses the class answered u: the whole step then, by what it goes on with.
module _ {M : Type 0} (program : M → Program) (world : M → World) (follows : M → Trace → List Touch → Type 0)
    (k : Program → State → Access Turn) (c : ℕ) (m0 m1 : M) (s : Kept) (t : Entries) (left left1 : ℕ) (u : Use)
    (of : program m1 ≡ program m0) (meets : RefinesUse c (program m0) (world m0) s.frames left u t (world m1) left1)
    (told : TracesUse c (program m0) (world m0) s.frames u follows m0 m1) (same : u ≢ Begun → t ≡ s.frames) where
  abbrev used : Part
  used p v = spend 1 (bind (begin p c v.entries) (once_driven p v (k p v)))

  pub made_ready : {E : Type 0} → u ≡ Ready → (m2 : M) (a : Result StepOutcome E) (s2 : Kept) (left2 : ℕ) → MakesPart (λ p v. spend 1 (k p v)) program world follows m1 m2 (record s { frames = t }) left1 a s2 left2
      → MakesPart used program world follows m0 m2 s left a s2 left2
  made_ready e m2 a s2 left2 b = (
    b.0 ∙ of,
    IfOk-weaker a _ _ (λ y z. (
      ready_counts program world follows k c m0 m1 m2 (abs s) t left left1 u of meets told same e ∙ z.0,
      λ n h ts q. ready_tells program world follows k c m0 m1 m2 (abs s) t left left1 u of meets told same e (z.1 n) h ts q,
    )) b.1,
  )

  pub made_begun : u ≡ Begun → (program m1 ≡ program m0) × EndsPart used program world follows m0 m1 s left Running (record s { frames = t; raised = None }) left1
  made_begun e = (
    of,
    (
      begun_counts program world follows k c m0 m1 m1 (abs s) t left left1 u of meets told same e,
      λ n h ts q. begun_tells program world follows k c m0 m1 m1 (abs s) t left left1 u of meets told same e h ts q,
    ),
  )

  pub made_refused : {E : Type 0} → (d : ℕ) → u ≡ Fault d → (m2 : M) (a : Result StepOutcome E) (s2 : Kept) (left2 : ℕ) → MakesPart (throw_part d) program world follows m1 m2 (record s { frames = t }) left1 a s2 left2
      → MakesPart used program world follows m0 m2 s left a s2 left2
  made_refused d e m2 a s2 left2 b = (
    b.0 ∙ of,
    IfOk-weaker a _ _ (λ y z. (
      refused_counts program world follows k c m0 m1 m2 (abs s) t left left1 u of meets told same d e ∙ z.0,
      λ n h ts q. refused_tells program world follows k c m0 m1 m2 (abs s) t left left1 u of meets told same d e (z.1 n) h ts q,
    )) b.1,
  )

  pub made_spent : u ≡ Over → (s2 : Kept) (left2 : ℕ) → (program m1 ≡ program m0) × EndsPart used program world follows m0 m1 s left Spent s2 left2
  made_spent e s2 left2 = (of, (over_counts program world follows k c m0 m1 m1 (abs s) t left left1 u of meets told same e, λ n. absurd (n refl)))

-- which first step it is
module _ (p : Program) (s : State) where
  abbrev static_first : Access Turn
  static_first = bind (begin p (method_at p (test_at p s.test).method).class s.entries) (once_driven p s (drives p (test_at p s.test).method [] (Last None) s))

  abbrev object_first : Access Turn
  object_first = bind (begin p (test_at p s.test).class s.entries) (once_driven p s (makes p (test_at p s.test).class s))

  static_first_is : is_static (method_at p (test_at p s.test).method).flags ≡ true → drive_first p s ≡ static_first
  unfolding drive_first
  static_first_is e = ap (λ b. cond b static_first object_first) e

  object_first_is : is_static (method_at p (test_at p s.test).method).flags ≡ false → drive_first p s ≡ object_first
  unfolding drive_first
  object_first_is e = ap (λ b. cond b static_first object_first) e

-- by the test's entry, and whether its method is static
pub first_static_is : (p q : Program) (s : State) (t : TestEntry) (b : Bool) (c : ℕ) → q ≡ p → t ≡ test_at q s.test → b ≡ is_static (method_at q t.method).flags → c ≡ (method_at q t.method).class → b ≡ true →
    drive_first p s ≡ bind (begin p c s.entries) (once_driven p s (drives p t.method [] (Last None) s))
first_static_is p q s t b c e f g h k = rw (h, f, e) (static_first_is p s (rw (← e, ← f, ← g) k))

pub first_object_is : (p q : Program) (s : State) (t : TestEntry) (b : Bool) → q ≡ p → t ≡ test_at q s.test → b ≡ is_static (method_at q t.method).flags → b ≡ false →
    drive_first p s ≡ bind (begin p t.class s.entries) (once_driven p s (makes p t.class s))
first_object_is p q s t b e f g k = rw (f, e) (object_first_is p s (rw (← e, ← f, ← g) k))
