-- What the step of an instruction that was found asks for, and the steps of forms that touch nothing.
use Rattle.std.proofs.Common.{◌≡◌, ◌<◌, ◌+◌, ℕ, suc, List, Bool, cond, refl, sym, ap, ◌∙◌, subst, arith, Option, Some, None, true, false, nat_le, ◌-◌}
use Rattle.jvm_model.specs.declared.values.Touch.{Touch}
use Rattle.jvm_model.specs.declared.instr.Instr.{Instr}
use Rattle.jvm_model.specs.declared.outcome.Next.{Next}
use Rattle.jvm_model.specs.declared.outcome.Next.TheVariants.{Go, Fault, Raise, Enter, Leave, Over}
use Rattle.jvm_model.specs.declared.program.Program.{Program}
use Rattle.jvm_model.specs.declared.state.EntryKind.TheVariants.{InMethod}
use Rattle.jvm_model.specs.{World.World, Classes.next_place, Classes.form_at, Entries.Entries, Entries.with_place, Rows.Answer, Rows.answer}
use Rattle.jvm_model.specs.Access.{Access, done, spend, bind, run}
use Rattle.jvm_model.specs.State.{State, Turn}
use Rattle.jvm_model.specs.Step.{group_of, row, row_here, row_or_none, after_row}
use Rattle.jvm_model.specs.View.{counted, ended, touched, IsSafe, IsRow, IsTurn}
use Rattle.jvm_model.proofs.{Bridges.counted_is, Steps.step_runs, Steps.safe_row}
use Rattle.vm_arith.specs.Pure.{GoesOn, GoesTo, Branches, Ends, TouchesNothing, is_pure}
use Rattle.vm_frames.specs.Stack.{HasRoom}
use Rattle.vm_mem.specs.Refines.{IsReady, Refines, Row, Traces}
use Rattle.vm_mem.specs.Trace.{Trace}
use Rattle.vm_arith.proofs.{Rows.has_row, Steps.thrown}
use Rattle.check_sound.specs.ReachLaw.{puts}
use Rattle.vm_interp.specs.{Reaching.CanStep, Rows.form_row}
use Rattle.vm_interp.specs.declared.flow.{Flow.Flow, Flow.TheVariants.Jump, Flow.TheVariants.Other}
use Rattle.vm_interp.specs.Dispatching.{CanGo, CanRun, EndsFlow, HasOne, IsLeft, left_behind, next_of, settled, settled_flow}
use Rattle.vm_interp.proofs.{Quiet.grows, Quiet.untouched, Whole.ended_so}

-- the row of a form goes on, where this is the place of the next instruction
record Goes (i : Instr) (next : ℕ) (s u : Entries) : Type 0 where
  pub frame : u.top.kind ≡ s.top.kind
  pub number : u.top.number ≡ s.top.number
  pub row : (p : Program) → next_place p s.top.number s.top.pc ≡ next → row p i s ≡ done (answer Go u)

-- a form that goes on at the next instruction
goes : (i : Instr) (n : ℕ) (s u : Entries) → GoesOn i s u → Goes i n s (with_place u n)
goes i n s u h = record { frame = h.frame.kind; number = h.frame.number; row = λ p e. h.row p s.top.pc ∙ ap (λ m. done (answer Go (with_place u m))) e }

-- a branch
branches : (i : ℕ → Instr) (b : Bool) (to n : ℕ) (s u : Entries) → Branches i b s u → Goes (i to) n s (with_place u (cond b to n))
branches i b to n s u h = record { frame = h.frame.kind; number = h.frame.number; row = λ p e. h.row to p s.top.pc ∙ ap (λ m. done (answer Go (with_place u (cond b to m)))) e }

-- the row of such a form
module _ (p : Program) (s : Entries) (w : World) (i : Instr) (n : ℕ) (u : Entries) (place : next_place p s.top.number s.top.pc ≡ n) (h : Goes i n s u) where
  hot_meets : (left left1 : ℕ) → left ≡ suc left1 → Refines (form_row i) p w s left Go u w left1
  hot_meets left left1 e = ap (λ (a : Access (Answer Entries)). counted (spend 1 a) w left) (h.row p place) ∙
      (let d : left - 1 ≡ left1 = omega arith in let k : nat_le 1 left ≡ true = grind arith in rw (k, d) refl)

  hot_touches : (ts : List Touch) → touched (row p i s) w ts ≡ ts
  hot_touches ts = ap (λ (a : Access (Answer Entries)). touched a w ts) (h.row p place)

  went_meets : (left : ℕ) → 0 < left → Refines (form_row i) p w s left Go u w (left - 1)
  went_meets left l = hot_meets left (left - 1) (omega arith)

  went_tells : {M : Type 0} (follows : M → Trace → List Touch → Type 0) (m : M) → Traces (form_row i) p w s Go follows m m
  went_tells follows m o h ts k = subst (λ (us : List Touch). follows m h us) (sym (hot_touches ts)) k

pub branch_meets : (p : Program) (w : World) (i : ℕ → Instr) (b : Bool) (to n : ℕ) (s u : Entries) (left : ℕ) → Branches i b s u → next_place p s.top.number s.top.pc ≡ n → 0 < left → Refines (form_row (i to)) p w s left Go (with_place u (cond b to n)) w (left - 1)
branch_meets p w i b to n s u left h e l = went_meets p s w (i to) n (with_place u (cond b to n)) e (branches i b to n s u h) left l

pub branch_tells : {M : Type 0} (follows : M → Trace → List Touch → Type 0) (m : M) (p : Program) (w : World) (i : ℕ → Instr) (b : Bool) (to : ℕ) (s u : Entries) → Branches i b s u → Traces (form_row (i to)) p w s Go follows m m
branch_tells follows m p w i b to s u h = went_tells p s w (i to) (next_place p s.top.number s.top.pc) (with_place u (cond b to (next_place p s.top.number s.top.pc))) refl (branches i b to (next_place p s.top.number s.top.pc) s u h) follows m

there : (p : Program) (s : Entries) (i : Instr) (w : World) → form_at p s.top.number s.top.pc ≡ Some i → IsSafe IsRow (row_here p s) w → IsSafe IsRow (row p i s) w
unfolding row_here
there p s i w e h = subst (λ (o : Option Instr). IsSafe IsRow (row_or_none p o s) w) e h

by_pure : (p : Program) (i : Instr) (u : Entries) (w : World) (c : Bool) → is_pure (group_of i) ≡ c → IsSafe IsRow (row p i u) w → HasRoom (puts i) u → CanGo c i u
by_pure p i u w true e h space = (has_row p w i u e h, let g = grows i in omega arith)
by_pure p i u w false e h space = tt

-- what a state that can step gives to the step of the frame at the top
module _ (p : Program) (s : State) (w : World) (can : CanStep p w s) (k : s.entries.top.kind ≡ InMethod) (r : s.raised ≡ None) where
  pub fits : IsSafe IsTurn (spend 1 (bind (row_here p s.entries) (after_row p s))) w
  fits = subst (λ (a : Access Turn). IsSafe IsTurn a w) (step_runs p s k r) can.safe

  pub row_safe : IsSafe IsRow (row_here p s.entries) w
  row_safe = safe_row p s (row_here p s.entries) w fits

  pub can_run : (i : Instr) → form_at p s.entries.top.number s.entries.top.pc ≡ Some i → CanRun i s.entries
  can_run i e = by_pure p i s.entries w (is_pure (group_of i)) refl (there p s.entries i w e row_safe) ((can.space k r).room i e)

-- a form that goes on, and the place of the next instruction
pub straight_meets : (p : Program) (w : World) (i : Instr) (n : ℕ) (s u : Entries) (left : ℕ) → GoesOn i s u → next_place p s.top.number s.top.pc ≡ n → 0 < left → Refines (form_row i) p w s left Go (with_place u n) w (left - 1)
straight_meets p w i n s u left h e l = went_meets p s w i n (with_place u n) e (goes i n s u h) left l

pub straight_tells : {M : Type 0} (follows : M → Trace → List Touch → Type 0) (m : M) (p : Program) (w : World) (i : Instr) (s u : Entries) → GoesOn i s u → Traces (form_row i) p w s Go follows m m
straight_tells follows m p w i s u h = went_tells p s w i (next_place p s.top.number s.top.pc) (with_place u (next_place p s.top.number s.top.pc)) refl (goes i (next_place p s.top.number s.top.pc) s u h) follows m

-- a form that goes to a place of the code
targets : (i : Instr) (to n : ℕ) (s u : Entries) → GoesTo i to s u → Goes i n s (with_place u to)
targets i to n s u h = record { frame = h.frame.kind; number = h.frame.number; row = λ p e. h.row p s.top.pc }

module _ (p : Program) (w : World) (i : Instr) (to : ℕ) (s u : Entries) (h : GoesTo i to s u) where
  target_meets : (left : ℕ) → 0 < left → Refines (form_row i) p w s left Go (with_place u to) w (left - 1)
  target_meets left l = went_meets p s w i (next_place p s.top.number s.top.pc) (with_place u to) refl (targets i to (next_place p s.top.number s.top.pc) s u h) left l

  target_tells : {M : Type 0} (follows : M → Trace → List Touch → Type 0) (m : M) → Traces (form_row i) p w s Go follows m m
  target_tells follows m = went_tells p s w i (next_place p s.top.number s.top.pc) (with_place u to) refl (targets i to (next_place p s.top.number s.top.pc) s u h) follows m

pub target_made : {M : Type 0} (program : M → Program) (world : M → World) (follows : M → Trace → List Touch → Type 0) (m : M) (i : Instr) (to : ℕ) (s u t : Entries) (left : ℕ) → GoesTo i to s u → t ≡ with_place u to → 0 < left → (program m ≡ program m) × (EndsFlow (form_row i) program world follows m m s left Jump t (left - 1) × HasOne Jump left)
target_made program world follows m i to s u t left h e l = (refl, ((rw (e) (target_meets (program m) (world m) i to s u h left l), target_tells (program m) (world m) i to s u h follows m), l))

-- a form that goes on at the next instruction or throws by itself
pub settled_meets : (p : Program) (w : World) (i : Instr) (x : Next) (n : ℕ) (s u : Entries) (left : ℕ) → Ends i x s u → next_place p s.top.number s.top.pc ≡ n → 0 < left → Refines (form_row i) p w s left (next_of (settled_flow x)) (settled x n u) w (left_behind (settled_flow x) left)
settled_meets p w i Go n s u left h e l = straight_meets p w i n s u left h e l
settled_meets p w i (Fault c) n s u left h e l = thrown i n left (Fault c) s u h (λ k. absurd (cc)) p w e
settled_meets p w i _ n s u left h e l = absurd h

pub settled_one : (i : Instr) (x : Next) (s u : Entries) (left : ℕ) → Ends i x s u → 0 < left → HasOne (settled_flow x) left
settled_one i Go s u left h l = l
settled_one i (Fault c) s u left h l = tt
settled_one i _ s u left h l = absurd h

pub settled_left : (i : Instr) (x : Next) (n : ℕ) (s u : Entries) → Ends i x s u → s.top.kind ≡ InMethod → IsLeft (settled_flow x) s.top.number n (settled x n u)
settled_left i Go n s u h k = (record { frame = h.frame.kind ∙ k; number = h.frame.number }, refl)
settled_left i (Fault c) n s u h k = tt
settled_left i _ n s u h k = absurd h

pub quiet_tells : {M : Type 0} (follows : M → Trace → List Touch → Type 0) (m : M) (p : Program) (w : World) (i : Instr) (x : Next) (s : Entries) → TouchesNothing i → Traces (form_row i) p w s x follows m m
quiet_tells follows m p w i x s t o h ts k = subst (λ (us : List Touch). follows m h us) (sym (untouched p i s t w ts)) k

-- a row that is named in two ways
pub ready_as : {M : Type 0} (t u : Row Entries) (p : Program) (program : M → Program) (world : M → World) (m : M) (s : Entries) → t ≡ u → IsReady t p program world m s → IsReady u p program world m s
ready_as t u p program world m s e h = subst (λ (r : Row Entries). IsReady r p program world m s) e h

pub flow_as : {M : Type 0} (t u : Row Entries) (program : M → Program) (world : M → World) (follows : M → Trace → List Touch → Type 0) (m n : M) (s s' : Entries) (left left' : ℕ) (x : Next) (y : Flow) → t ≡ u → next_of y ≡ x → left_behind y left' ≡ left' → EndsFlow u program world follows m n s left (Other x) s' left' → EndsFlow t program world follows m n s left y s' (left_behind y left')
flow_as t u program world follows m n s s' left left' x y e k c h =
    subst (λ (l : ℕ). EndsFlow t program world follows m n s left y s' l) (sym c)
    (subst (λ (r : Row Entries). EndsFlow r program world follows m n s left y s' left') (sym e)
    (subst (λ (z : Next). EndsFlow u program world follows m n s left (Other z) s' left') (sym k) h))

-- a row that goes on counts at least the 1 of its step
pub row_falls : {M : Type 0} (program : M → Program) (world : M → World) (t : Row Entries) (m n : M) (s s' : Entries) (left left' : ℕ) (x : Next) → x ≡ Go → Refines t (program m) (world m) s left x s' (world n) left' → left' < left
row_falls program world t m n s s' left left' x e h =
    let a : counted (spend 1 (t (program m) s)) (world m) left ≡ ended (answer Go s') (world n) left' = subst (λ (z : Next). Refines t (program m) (world m) s left z s' (world n) left') e h in
    let z = ended_so (run (spend 1 (t (program m) s)) (world m)) left (answer Go s') (world n) left' (sym (counted_is (spend 1 (t (program m) s)) (world m) left) ∙ a) in
    let u = z.units in
    let v = z.within in
    omega arith
