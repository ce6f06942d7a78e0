-- Steps of a test one after the other, as the code makes them.
use Rattle.std.proofs.Common.{◌≡◌, ◌≢◌, ◌≤◌, ◌<◌, ◌-◌, ℕ, List, [], ◌∷◌, length, nat_le, true, not, refl, sym, ap, ◌∙◌, subst, arith, Option, None, Some, is_some}
use Rattle.jvm_model.specs.declared.values.{Touch.Touch, Value.Value}
use Rattle.jvm_model.specs.declared.library.Native.{Native}
use Rattle.jvm_model.specs.declared.library.Native.TheVariants as native
use Rattle.jvm_model.specs.declared.outcome.Next.{Next}
use Rattle.jvm_model.specs.declared.outcome.Next.TheVariants.{Go, Fault, Raise, Enter, Leave, Over as Spent}
use Rattle.jvm_model.specs.declared.program.Program.{Program}
use Rattle.jvm_model.specs.declared.state.EntryKind.TheVariants.{InMethod}
use Rattle.jvm_model.specs.{World.World, Classes.method_at, Classes.next_place, Natives.row_native, NativesObject.native_object, Rows.popping, Working.answers}
use Rattle.jvm_model.specs.Access.{Access, bind, done, spend}
use Rattle.jvm_model.specs.Entries.{Entries, with_place, with_stack}
use Rattle.jvm_model.specs.State.{State, Turn, next, with_entries}
use Rattle.jvm_model.specs.Step.{after_native, entered, row_here, step}
use Rattle.jvm_model.specs.View.{counted, ended, paid, touched, IsSafe, IsTurn}
use Rattle.jvm_model.proofs.Steps.{step_runs}
use Rattle.vm_mem.specs.{Refines.Refines, Refines.Traces, Trace.Trace}
use Rattle.vm_interp.specs.Dispatching.{Steps, here, on, StepsOn, RunsSlice, Dispatches, EndsInit, EndsWithRow, HasObject, IsAtForm}
use Rattle.vm_interp.specs.{Reaching.AllSafe, Reaching.HasRoomAfter, Abs.abs}
use Rattle.vm_interp.specs.Turns.{after, by_row, step_outcome}
use Rattle.vm_interp.specs.declared.state.State.{State as Kept}
use Rattle.vm_interp.specs.declared.step_outcome.{StepOutcome.StepOutcome, StepOutcome.TheVariants.OutOfBudget}
use Rattle.vm_interp.proofs.{NoEntry.room_then, Found.fits, Found.row_safe, Numbered.has_form}
use Rattle.vm_interp.proofs.Stepped.{row_over, row_fit, row_counted, row_touches}
use Rattle.vm_interp.proofs.Whole.{IsRest, goes_by, step_falls}

never_more : (p : Program) (s : State) (w : World) (n : ℕ) {u : State} {v : World} {m : ℕ} {f : List Touch → List Touch} → Steps p s w n u v m f → m ≤ n
never_more p s w n here = omega arith
never_more p s w n (on t v m f u w' k g e) = let q = never_more p s w n g in let l = step_falls p t v m (next u) w' k e in omega arith

-- what is left of the test after so many steps
steps_rest : (p : Program) (t : ℕ) (v : World) (b : ℕ) (s : State) (w : World) (n : ℕ) (f : List Touch → List Touch) {u : State} {w' : World} {m : ℕ} {g : List Touch → List Touch} →
    Steps p s w n u w' m g → IsRest p t v b s w n f → IsRest p t v b u w' m (λ ts. g (f ts))
steps_rest p t v b s w n f here r = r
steps_rest p t v b s w n f (on x y m g u w' k h e) r =
    let i = steps_rest p t v b s w n f h r in
    goes_by p t v b x y m (λ ts. g (f ts)) i.fuel i.more i.same i.reached i.touches u w' k e

-- each state that they come to can step
pub steps_can : (p q : Program) → q ≡ p → (t : ℕ) (v : World) (b : ℕ) (s : State) (w : World) (n : ℕ) (f : List Touch → List Touch) → AllSafe p t v → IsRest p t v b s w n f → StepsOn q s w n
steps_can p q same t v b s w n f all r = subst (λ (z : Program). StepsOn z s w n) (sym same) (λ u y m g h. all u y (steps_rest p t v b s w n f h r).reached)

-- the byte place written again
pub placed_again : (s u : Entries) (n : ℕ) → u ≡ with_place s n → s.top.pc ≡ n → u ≡ s
placed_again s u n e f = e ∙ ap (λ (m : ℕ). with_place s m) (sym f)

-- a step that ends with its row
after_row_ends : (p : Program) (s : State) (x : Next) → EndsWithRow p x → after x p s ≡ done (next (with_entries s s.entries))
after_row_ends p s Go h = refl
after_row_ends p s (Enter m) h = ap (λ (o : Option Native). paid (not (not (is_some o))) (entered p s o s.entries)) h
after_row_ends p s _ h = absurd h

not_spent : (p : Program) (x : Next) → EndsWithRow p x → x ≢ Spent
not_spent p Go h = λ e. cc
not_spent p (Enter m) h = λ e. cc
not_spent p _ h = absurd h

-- The step whose row answered this and left these, in this world then: it touches no more, and the test goes on over
-- these entries.
pub record IsEnded (p : Program) (s : Kept) (x : Next) (t : Entries) (n : ℕ) (v : Entries) (l : ℕ) (w : World) : Type 0 where
  pub spent : x ≢ Spent
  pub goes : counted (after x p (record (abs s) { entries = t })) w n ≡ ended (next (record (abs s) { entries = v })) w l
  pub still : (ts : List Touch) → touched (after x p (record (abs s) { entries = t })) w ts ≡ ts

pub ended_with_row : (p : Program) (s : Kept) (x : Next) (t : Entries) (n : ℕ) (w : World) → s.raised ≡ None → EndsWithRow p x → IsEnded p s x t n t n w
ended_with_row p s x t n w quiet h = record {
  spent = not_spent p x h;
  goes = ap (λ (a : Access Turn). counted a w n) (after_row_ends p (record (abs s) { entries = t }) x h) ∙ ap (λ (o : Option Value). ended (next (record (abs s) { entries = t; raised = o })) w n) (sym quiet);
  still = λ ts. ap (λ (a : Access Turn). touched a w ts) (after_row_ends p (record (abs s) { entries = t }) x h);
}

-- the constructor of Object, over these entries
init_after : (p : Program) (s : State) (m : ℕ) → (method_at p m).native ≡ Some native.ObjectInit → after (Enter m) p s ≡ spend 1 (bind (row_native p native.ObjectInit (record { entries = s.entries; own = s.own })) (after_native p s))
init_after p s m h = ap (λ (o : Option Native). paid (not (not (is_some o))) (entered p s o s.entries)) h

init_row : (p : Program) (s : State) (o : Value) (vs : List Value) → s.entries.top.stack ≡ o ∷ vs →
    bind (row_native p native.ObjectInit (record { entries = s.entries; own = s.own })) (after_native p s) ≡ done (next (record s { entries = with_place (with_stack s.entries vs) (next_place p s.entries.top.number s.entries.top.pc) }))
unfolding row_native native_object
init_row p s o vs e = ap (λ (xs : List Value). bind (popping xs (λ r ys. answers p (record { entries = s.entries; own = s.own }) ys)) (after_native p s)) e

empty_or : (p : Program) (s : State) (w : World) (xs : List Value) → s.entries.top.stack ≡ xs → IsSafe IsTurn (bind (row_native p native.ObjectInit (record { entries = s.entries; own = s.own })) (after_native p s)) w → 0 < length xs
unfolding row_native native_object
empty_or p s w [] e h = absurd (subst (λ (ys : List Value). IsSafe IsTurn (bind (popping ys (λ r zs. answers p (record { entries = s.entries; own = s.own }) zs)) (after_native p s)) w) e h)
empty_or p s w (x ∷ xs) e h = omega arith

object_there : (p : Program) (s : State) (t : Entries) (w : World) (m : ℕ) → (method_at p m).native ≡ Some native.ObjectInit → IsSafe IsTurn (after (Enter m) p (record s { entries = t })) w → 0 < length t.top.stack
object_there p s t w m h safe = empty_or p (record s { entries = t }) w t.top.stack refl (subst (λ (a : Access Turn). IsSafe IsTurn a w) (init_after p (record s { entries = t }) m h) safe)

pub ended_with_init : (p : Program) (s : Kept) (x : Next) (t : Entries) (n : ℕ) (v : Entries) (l : ℕ) (w : World) → EndsInit p x t n v l → IsEnded p s x t n v l w
ended_with_init p s x t n v l w h =
    let z = record (abs s) { entries = t } in
    let runs : after x p z ≡ spend 1 (done (next (record z { entries = v }))) =
    ap (λ (y : Next). after y p z) h.enters ∙ init_after p z h.method h.native
    ∙ ap (λ (a : Access Turn). spend 1 a) (init_row p z h.object h.popped.top.stack (ap (λ (e : Entries). e.top.stack) h.before))
    ∙ ap (λ (e : Entries). spend 1 (done (next (record z { entries = e }))))
    (ap (λ (e : Entries). with_place (with_stack e h.popped.top.stack) (next_place p t.top.number t.top.pc)) h.before ∙ sym h.after) in
    record {
      spent = λ e. (let bad : Enter h.method ≡ Spent = sym h.enters ∙ e in cc);
      goes = ap (λ (a : Access Turn). counted a w n) runs ∙ (let c = h.counted in let d : n - 1 ≡ l = omega arith in let k : nat_le 1 n ≡ true = grind arith in rw (k, d) refl);
      still = λ ts. ap (λ (a : Access Turn). touched a w ts) runs;
    }

module _ {M : Type 0} (world : M → World) (follows : M → Trace → List Touch → Type 0) (p q : Program) (same : q ≡ p) where
  module _ (m0 m1 : M) (s : Kept) (left : ℕ) (x : StepOutcome) (s' : Kept) (left' : ℕ) where
    -- one step alone
    pub alone : counted (step q (abs s)) (world m0) left ≡ step_outcome x s' (world m1) left' →
        (x ≢ OutOfBudget → (h : Trace) (ts : List Touch) → follows m0 h ts → follows m1 h (touched (step q (abs s)) (world m0) ts)) → RunsSlice p world follows m0 m1 s left x s' left'
    alone e f = subst (λ (z : Program). RunsSlice z world follows m0 m1 s left x s' left') same
        (record { last = abs s; there = world m0; units = left; so_far = λ ts. ts; steps = here; meets = e; told = f })

    -- what is left of the test before the last step
    pub advanced : (t : ℕ) (v : World) (b : ℕ) (f : List Touch → List Touch) → IsRest p t v b (abs s) (world m0) left f → (a : RunsSlice q world follows m0 m1 s left x s' left') → IsRest p t v b a.last a.there a.units (λ ts. a.so_far (f ts))
    advanced t v b f r a = steps_rest p t v b (abs s) (world m0) left f (subst (λ (z : Program). Steps z (abs s) (world m0) left a.last a.there a.units a.so_far) same a.steps) r

    pub no_more : (a : RunsSlice q world follows m0 m1 s left x s' left') → a.units ≤ left
    no_more a = never_more q (abs s) (world m0) left a.steps

  -- steps so far up to these entries, in a memory that follows their touches
  module _ (m0 m1 m2 : M) (s : Kept) (quiet : s.raised ≡ None) (e : Entries) (n0 n : ℕ) (f : List Touch → List Touch)
      (g : Steps p (abs s) (world m0) n0 (record (abs s) { entries = e }) (world m1) n f)
      (told : (h : Trace) (ts : List Touch) → follows m0 h ts → follows m1 h (f ts)) (k : e.top.kind ≡ InMethod) where
    abbrev pub at : State
    at = record (abs s) { entries = e }

    -- no unit is left
    pub looped_over : n ≡ 0 → (t : Entries) (n' : ℕ) → Dispatches p world follows m0 m1 s n0 Spent t n'
    looped_over z t n' = record {
      last = e;
      there = world m1;
      units = n;
      so_far = f;
      steps = g;
      frame = k;
      meets = subst (λ (l : ℕ). Refines row_here p (world m1) e l Spent t (world m1) n') (sym z) refl;
      told = λ o h ts l. absurd (o refl);
    }

    -- and the row of one more
    module _ (x : Next) (t : Entries) (n' : ℕ) (meets : Refines row_here q (world m1) e n x t (world m2) n') (tells : Traces row_here q (world m1) e x follows m1 m2) where
      same_meets : Refines row_here p (world m1) e n x t (world m2) n'
      same_meets = subst (λ (z : Program). Refines row_here z (world m1) e n x t (world m2) n') same meets

      same_tells : Traces row_here p (world m1) e x follows m1 m2
      same_tells = subst (λ (z : Program). Traces row_here z (world m1) e x follows m1 m2) same tells

      pub looped : Dispatches p world follows m0 m2 s n0 x t n'
      looped = record { last = e; there = world m1; units = n; so_far = f; steps = g; frame = k; meets = same_meets; told = λ o h ts l. same_tells o h (f ts) (told h ts l) }

      -- its step ends over these entries
      module _ (v : Entries) (l : ℕ) (ends : IsEnded p s x t n' v l (world m2)) where
        row_goes : counted (step p at) (world m1) n ≡ ended (next (record (abs s) { entries = v })) (world m2) l
        row_goes = ap (λ (a : Access Turn). counted a (world m1) n) (step_runs p at k quiet)
            ∙ row_counted row_here p (world m1) at n t (world m2) n' x ends.spent same_meets ∙ ends.goes

        touches : (ts : List Touch) → touched (step p at) (world m1) ts ≡ touched (row_here p e) (world m1) ts
        touches ts = ap (λ (a : Access Turn). touched a (world m1) ts) (step_runs p at k quiet)
            ∙ row_touches row_here p (world m1) at n t (world m2) n' x ends.spent same_meets ts
            ∙ ends.still (touched (row_here p e) (world m1) ts)

        pub row_on : Steps p (abs s) (world m0) n0 (record (abs s) { entries = v }) (world m2) l (λ ts. touched (step p at) (world m1) (f ts))
        row_on = on at (world m1) n f (record (abs s) { entries = v }) (world m2) l g row_goes

        pub row_told : (h : Trace) (ts : List Touch) → follows m0 h ts → follows m2 h (touched (step p at) (world m1) (f ts))
        row_told h ts j = subst (λ (us : List Touch). follows m2 h us) (sym (touches (f ts))) (same_tells ends.spent h (f ts) (told h ts j))

        -- where the test goes on in a method, an instruction stands there
        pub row_there : StepsOn p (abs s) (world m0) n0 → IsAtForm p v
        row_there can h = has_form p v (world m2)
            (row_safe p (record (abs s) { entries = v }) (world m2) (can (record (abs s) { entries = v }) (world m2) l (λ ts. touched (step p at) (world m1) (f ts)) row_on) h quiet)

        pub row_falls : l < n
        row_falls = step_falls p at (world m1) n (next (record (abs s) { entries = v })) (world m2) l row_goes

      -- where it enters the constructor of Object, its object is there
      pub row_object : StepsOn p (abs s) (world m0) n0 → HasObject p x t
      row_object can m e h = object_there p at t (world m2) m h (subst (λ (y : Next). IsSafe IsTurn (after y p (record at { entries = t })) (world m2)) e
          (row_fit row_here p (world m1) at n t (world m2) n' x (λ z. let bad : Enter m ≡ Spent = sym e ∙ z in cc) same_meets (fits p at (world m1) (can at (world m1) n f g) k quiet)))

  -- steps and a row, over which a state stands
  module _ (m0 m1 m2 : M) (s : Kept) (quiet : s.raised ≡ None) (left : ℕ) (x : Next) (z : Kept) (left1 : ℕ) (stands : z ≡ record s { frames = z.frames })
      (can : StepsOn p (abs s) (world m0) left) (a : Dispatches p world follows m0 m1 s left x z.frames left1) where
    abbrev before : State
    before = record (abs s) { entries = a.last }

    runs : step p before ≡ by_row row_here p before
    runs = step_runs p before a.frame quiet

    seen_is : record before { entries = z.frames } ≡ abs z
    seen_is = sym (ap abs stands)

    pub ends_over : x ≡ Spent → (s' : Kept) (left' : ℕ) → RunsSlice p world follows m0 m1 s left OutOfBudget s' left'
    ends_over e s' left' = record {
      last = before;
      there = a.there;
      units = a.units;
      so_far = a.so_far;
      steps = a.steps;
      meets = ap (λ (b : Access Turn). counted b a.there a.units) runs ∙ row_over row_here p a.there before a.units z.frames (world m1) left1 (subst (λ (y : Next). Refines row_here p a.there a.last a.units y z.frames (world m1) left1) e a.meets);
      told = λ n. absurd (n refl);
    }

    module _ (n : x ≢ Spent) where
      pub looped_fit : IsSafe IsTurn (after x q (abs z)) (world m1)
      looped_fit = subst (λ (u : State). IsSafe IsTurn (after x q u) (world m1)) seen_is (subst (λ (r : Program). IsSafe IsTurn (after x r (record before { entries = z.frames })) (world m1)) (sym same)
          (row_fit row_here p a.there before a.units z.frames (world m1) left1 x n a.meets (fits p before a.there (can before a.there a.units a.so_far a.steps) a.frame quiet)))

      pub looped_room : HasRoomAfter x q z.frames
      looped_room = subst (λ (r : Program). HasRoomAfter x r z.frames) (sym same)
          (room_then row_here p a.there a.last a.units x z.frames (world m1) left1 n a.meets ((can before a.there a.units a.so_far a.steps).native_space a.frame quiet))

      counts : counted (step p before) a.there a.units ≡ counted (after x q (abs z)) (world m1) left1
      counts = ap (λ (b : Access Turn). counted b a.there a.units) runs ∙ row_counted row_here p a.there before a.units z.frames (world m1) left1 x n a.meets
          ∙ ap (λ (u : State). counted (after x p u) (world m1) left1) seen_is ∙ ap (λ (r : Program). counted (after x r (abs z)) (world m1) left1) (sym same)

      looped_touches : (ts : List Touch) → touched (step p before) a.there ts ≡ touched (after x q (abs z)) (world m1) (touched (row_here p a.last) a.there ts)
      looped_touches ts = ap (λ (b : Access Turn). touched b a.there ts) runs ∙ row_touches row_here p a.there before a.units z.frames (world m1) left1 x n a.meets ts
          ∙ ap (λ (u : State). touched (after x p u) (world m1) (touched (row_here p a.last) a.there ts)) seen_is ∙ ap (λ (r : Program). touched (after x r (abs z)) (world m1) (touched (row_here p a.last) a.there ts)) (sym same)

      -- and what comes after the row
      pub concluded : (y : StepOutcome) (s' : Kept) (left' : ℕ) → counted (after x q (abs z)) (world m1) left1 ≡ step_outcome y s' (world m2) left' →
          (y ≢ OutOfBudget → (h : Trace) (ts : List Touch) → follows m1 h ts → follows m2 h (touched (after x q (abs z)) (world m1) ts)) → RunsSlice p world follows m0 m2 s left y s' left'
      concluded y s' left' meets tells = record {
        last = before;
        there = a.there;
        units = a.units;
        so_far = a.so_far;
        steps = a.steps;
        meets = counts ∙ meets;
        told = λ o h ts l. subst (λ (us : List Touch). follows m2 h us) (sym (looped_touches (a.so_far ts))) (tells o h (touched (row_here p a.last) a.there (a.so_far ts)) (a.told n h ts l));
      }
