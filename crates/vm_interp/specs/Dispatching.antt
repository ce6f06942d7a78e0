-- Steps of a test, one after the other.
use Rattle.std.specs.Prelude.{◌≡◌, ◌≢◌, ◌<◌, ◌-◌, ℕ, suc, Result, IfOk, List, ◌∷◌, length, drop, Bool, true, false, Some, None, IsSome}
use Rattle.jvm_model.specs.declared.library.Native.TheVariants as native
use Rattle.jvm_model.specs.declared.values.{Touch.Touch, Value.Value}
use Rattle.jvm_model.specs.declared.instr.Instr.{Instr}
use Rattle.jvm_model.specs.declared.outcome.Next.{Next}
use Rattle.jvm_model.specs.declared.outcome.Next.TheVariants.{Go, Fault, Raise, Enter, Leave, Over as Spent}
use Rattle.jvm_model.specs.declared.program.{Body.Body, Placed.Placed, Program.Program}
use Rattle.jvm_model.specs.declared.state.EntryKind.TheVariants.{InMethod}
use Rattle.jvm_model.specs.{World.World, State.State, State.next}
use Rattle.jvm_model.specs.Classes.{form_at, method_at, next_place, place_after}
use Rattle.jvm_model.specs.Entries.{Entries, with_place, with_stack}
use Rattle.jvm_model.specs.Step.{group_of, row_here, step}
use Rattle.jvm_model.specs.View.{counted, ended, touched}
use Rattle.vm_frames.specs.Stack.{HasRoom}
use Rattle.vm_mem.specs.Refines.{Row, Refines, Traces}
use Rattle.vm_mem.specs.Trace.{Trace}
use Rattle.vm_arith.specs.Pure.{HasRow, is_pure, growth}
use Rattle.vm_interp.specs.{Reaching.CanStep, Abs.abs, Turns.step_outcome}
use Rattle.vm_interp.specs.declared.state.State.{State as Kept}
use Rattle.vm_interp.specs.declared.step_outcome.{StepOutcome.StepOutcome, StepOutcome.TheVariants.OutOfBudget}
use Rattle.vm_interp.specs.declared.flow.{Flow.Flow, Flow.TheVariants.FallThrough, Flow.TheVariants.Jump, Flow.TheVariants.Call, Flow.TheVariants.Other}

-- so many steps, after each of which the test goes on; the function adds their touches to those before
pub data Steps (p : Program) (s : State) (w : World) (n : ℕ) : State → World → ℕ → (List Touch → List Touch) → Type 0 where
  here : Steps p s w n s w n (λ ts. ts)
  on : (t : State) (v : World) (m : ℕ) (f : List Touch → List Touch) (u : State) (w' : World) (k : ℕ) →
      Steps p s w n t v m f → counted (step p t) v m ≡ ended (next u) w' k → Steps p s w n u w' k (λ ts. touched (step p t) v (f ts))

-- each state that such steps come to can step
abbrev pub StepsOn : Program → State → World → ℕ → Type 0
StepsOn p s w n = (u : State) (v : World) (m : ℕ) (f : List Touch → List Touch) → Steps p s w n u v m f → CanStep p v u

-- Such steps and one more, which ended as the code answered; unless its cost is above the units left, a memory then follows
-- the touches of all.
pub record RunsSlice {M : Type 0} (p : Program) (world : M → World) (follows : M → Trace → List Touch → Type 0) (old new : M) (s : Kept) (left : ℕ) (x : StepOutcome) (s' : Kept) (left' : ℕ) : Type 0 where
  pub last : State
  pub there : World
  pub units : ℕ
  pub so_far : List Touch → List Touch
  pub steps : Steps p (abs s) (world old) left last there units so_far
  pub meets : counted (step p last) there units ≡ step_outcome x s' (world new) left'
  pub told : x ≢ OutOfBudget → (h : Trace) (ts : List Touch) → follows old h ts → follows new h (touched (step p last) there (so_far ts))

-- Such steps and the row of one more, which ended as the code answered; unless its cost is above the units left, a memory
-- then follows the touches of all.
pub record Dispatches {M : Type 0} (p : Program) (world : M → World) (follows : M → Trace → List Touch → Type 0) (old new : M) (s : Kept) (left : ℕ) (x : Next) (t : Entries) (left' : ℕ) : Type 0 where
  pub last : Entries
  pub there : World
  pub units : ℕ
  pub so_far : List Touch → List Touch
  pub steps : Steps p (abs s) (world old) left (record (abs s) { entries = last }) there units so_far
  pub frame : last.top.kind ≡ InMethod
  pub meets : Refines row_here p there last units x t (world new) left'
  pub told : x ≢ Spent → (h : Trace) (ts : List Touch) → follows old h ts → follows new h (touched (row_here p last) there (so_far ts))

-- the step of a row that answered this ends with it, and the test goes on
abbrev pub EndsWithRow : Program → Next → Type 0
EndsWithRow p Go = Unit {0}
EndsWithRow p (Enter m) = (method_at p m).native ≡ None
EndsWithRow p (Fault c) = ⊥
EndsWithRow p (Raise v) = ⊥
EndsWithRow p Leave = ⊥
EndsWithRow p Spent = ⊥

-- The step of a row that answered this ends with the built-in constructor of Object, which takes its object from the
-- operands and touches nothing: it goes on at the next instruction, and 1 is counted.
pub record EndsInit (p : Program) (x : Next) (s : Entries) (left : ℕ) (t : Entries) (left' : ℕ) : Type 0 where
  pub method : ℕ
  pub enters : x ≡ Enter method
  pub native : (method_at p method).native ≡ Some native.ObjectInit
  pub popped : Entries
  pub object : Value
  pub before : s ≡ with_stack popped (object ∷ popped.top.stack)
  pub frame : t.top.kind ≡ InMethod
  pub after : t ≡ with_place popped (next_place p s.top.number s.top.pc)
  pub counted : left ≡ suc left'

-- where it enters this constructor, there is the object
abbrev pub HasObject : Program → Next → Entries → Type 0
HasObject p x s = (m : ℕ) → x ≡ Enter m → (method_at p m).native ≡ Some native.ObjectInit → 0 < length s.top.stack

-- what a form asks of the entries, where it touches nothing
abbrev pub CanGo : Bool → Instr → Entries → Type 0
CanGo true i s = HasRow i s × HasRoom (growth i) s
CanGo false i s = Unit {0}

abbrev pub CanRun : Instr → Entries → Type 0
CanRun i s = CanGo (is_pure (group_of i)) i s

-- the place of the instruction after the first of these, or the end of the code behind the last one
abbrev pub place_behind : Body → List Placed → ℕ
place_behind b rest = place_after (drop 1 rest) b.length

-- these are the instructions of a code from one of them on
pub record IsRest (b : Body) (rest : List Placed) : Type 0 where
  pub from : ℕ
  pub within : from < length b.code
  pub all : rest ≡ drop from b.code

-- the first of these instructions stands at a place of a code
pub record IsPlaced (b : Body) (rest : List Placed) (pc : ℕ) : Type 0 where
  pub of : IsRest b rest
  pub place : pc ≡ place_after rest b.length

-- the top frame is of a method whose code this is
pub record IsInCode (p : Program) (b : Body) (s : Entries) : Type 0 where
  pub frame : s.top.kind ≡ InMethod
  pub own : (method_at p s.top.number).body ≡ Some b

-- and is at the first of these instructions
pub record Stands (p : Program) (b : Body) (rest : List Placed) (s : Entries) : Type 0 where
  pub code : IsInCode p b s
  pub placed : IsPlaced b rest s.top.pc

-- an instruction stands at the place of the top frame
abbrev pub IsAtForm : Program → Entries → Type 0
IsAtForm p s = s.top.kind ≡ InMethod → IsSome (form_at p s.top.number s.top.pc)

-- the top frame is of this method
pub record IsIn (m : ℕ) (s : Entries) : Type 0 where
  pub frame : s.top.kind ≡ InMethod
  pub number : s.top.number ≡ m

-- how a row left the frame of a method, where this is the place of the next instruction
abbrev pub IsLeft : Flow → ℕ → ℕ → Entries → Type 0
IsLeft FallThrough m n s = IsIn m s × (s.top.pc ≡ n)
IsLeft Jump m n s = IsIn m s
IsLeft (Call k) m n s = Unit {0}
IsLeft (Other x) m n s = Unit {0}

-- how a row left the frame of a method with this code
abbrev pub StaysAt : Program → Body → Flow → ℕ → Entries → Type 0
StaysAt p b FallThrough n s = IsInCode p b s × (s.top.pc ≡ n)
StaysAt p b Jump n s = IsInCode p b s
StaysAt p b (Call m) n s = Unit {0}
StaysAt p b (Other x) n s = Unit {0}

-- what the row answered
abbrev pub next_of : Flow → Next
next_of FallThrough = Go
next_of Jump = Go
next_of (Call m) = Enter m
next_of (Other x) = x

-- How a form that answered this leaves the entry at the top, where it touches nothing: it goes on at the next instruction,
-- at this place, or all is as the form left it.
abbrev pub settled_flow : Next → Flow
settled_flow Go = FallThrough
settled_flow x = Other x

abbrev pub settled : Next → ℕ → Entries → Entries
settled Go n s = with_place s n
settled x n s = s

-- what is left once the 1 of the step is counted behind a row that went on in its method; any other row counts it by itself
abbrev pub left_behind : Flow → ℕ → ℕ
left_behind FallThrough left = left - 1
left_behind Jump left = left - 1
left_behind (Call m) left = left
left_behind (Other x) left = left

-- where it is counted then, it is there
abbrev pub HasOne : Flow → ℕ → Type 0
HasOne FallThrough left = 0 < left
HasOne Jump left = 0 < left
HasOne (Call m) left = Unit {0}
HasOne (Other x) left = Unit {0}

-- over a memory a row leaves the entry at the top so, and the memory follows its touches
abbrev pub EndsFlow : {M : Type 0} → Row Entries → (M → Program) → (M → World) → (M → Trace → List Touch → Type 0) → M → M
    → Entries → ℕ → Flow → Entries → ℕ → Type 0
EndsFlow t program world follows old new s left x s' left' =
    Refines t (program old) (world old) s left (next_of x) s' (world new) left' × Traces t (program old) (world old) s (next_of x) follows old new

-- a call makes a row over a memory, which stays of its program, and answers how the row left the entry at the top
abbrev pub MakesFlow : {M E : Type 0} → Row Entries → (M → Program) → (M → World) → (M → Trace → List Touch → Type 0) → M → M
    → Entries → ℕ → Result Flow E → Entries → ℕ → Type 0
MakesFlow t program world follows old new s left r s' left' =
    (program new ≡ program old) × IfOk r (λ x. EndsFlow t program world follows old new s left x s' left')

-- the same, once the 1 of a row that went on in its method is counted behind it
abbrev pub MakesUncounted : {M E : Type 0} → Row Entries → (M → Program) → (M → World) → (M → Trace → List Touch → Type 0) → M → M
    → Entries → ℕ → Result Flow E → Entries → ℕ → Type 0
MakesUncounted t program world follows old new s left r s' left' = (program new ≡ program old)
    × IfOk r (λ x. EndsFlow t program world follows old new s left x s' (left_behind x left') × HasOne x left')
