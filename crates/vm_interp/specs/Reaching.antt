-- What the steps of a test ask of its states, and what its run gives.
use Rattle.std.specs.Prelude.{◌≡◌, ◌-◌, ℕ, List, Option, Some, None, IsSome}
use Rattle.jvm_model.specs.declared.values.Touch.{Touch}
use Rattle.jvm_model.specs.declared.outcome.{Verdict.Verdict, Next.Next}
use Rattle.jvm_model.specs.declared.instr.Instr.{Instr}
use Rattle.jvm_model.specs.declared.instr.Instr.TheVariants as form
use Rattle.jvm_model.specs.declared.library.Native.{Native}
use Rattle.jvm_model.specs.declared.outcome.Next.TheVariants.{Go, Fault, Raise, Enter, Leave, Over}
use Rattle.jvm_model.specs.declared.state.EntryKind.TheVariants.{Absent, InMethod}
use Rattle.jvm_model.specs.declared.program.Program.{Program}
use Rattle.jvm_model.specs.{World.World, Access.run, Classes.form_at, Classes.method_at, Entries.Entries, Entries.no_entries, Reached.Reaches, State.State}
use Rattle.jvm_model.specs.{Rows.answer, Step.row_here, Step.step, Suite.tree, Suite.Given}
use Rattle.jvm_model.specs.View.{IsSafe, IsTurn, touched}
use Rattle.vm_frames.specs.Stack.{HasRoom}
use Rattle.vm_mem.specs.{Refines.Row, Trace.Trace}
use Rattle.check_sound.specs.ReachLaw.{puts}
use Rattle.vm_calls.specs.Calls.{HasRoomBelow}
use Rattle.vm_natives.specs.Rows.{growth as native_growth}
use Rattle.vm_interp.specs.declared.state.State.{State as Kept}

-- where the form returns a value, there is room for it in the frame below
abbrev pub HasPlaceBelow : Instr → Entries → Type 0
HasPlaceBelow (form.Return (Some x)) s = HasRoomBelow s
HasPlaceBelow _ s = Unit {0}

-- there is room for what the instruction at the top puts
pub record HasSpace (p : Program) (s : Entries) : Type 0 where
  pub room : (i : Instr) → form_at p s.top.number s.top.pc ≡ Some i → HasRoom (puts i) s
  pub below : (i : Instr) → form_at p s.top.number s.top.pc ≡ Some i → HasPlaceBelow i s

-- there is room for what a built-in method puts beyond what it takes
abbrev pub HasRoomFor : Option Native → Entries → Type 0
HasRoomFor None s = Unit {0}
HasRoomFor (Some x) s = HasRoom (native_growth x) s

abbrev pub HasRoomAfter : Next → Program → Entries → Type 0
HasRoomAfter Go p s = Unit {0}
HasRoomAfter (Fault c) p s = Unit {0}
HasRoomAfter (Raise v) p s = Unit {0}
HasRoomAfter (Enter m) p s = HasRoomFor (method_at p m).native s
HasRoomAfter Leave p s = Unit {0}
HasRoomAfter Over p s = Unit {0}

-- where a row enters a built-in method, there is room for what it puts
abbrev pub HasNativeSpace : Row Entries → Program → World → Entries → Type 0
HasNativeSpace r p w s = (m : ℕ) (t : Entries) → (run (r p s) w).value ≡ answer (Enter m) t → HasRoomFor (method_at p m).native t

-- the next step is that of an instruction
abbrev pub IsRunning : State → Type 0
IsRunning s = (s.entries.top.kind ≡ InMethod) × (s.raised ≡ None)

-- What a step asks of a test's state.
pub record CanStep (p : Program) (w : World) (s : State) : Type 0 where
  -- it comes to an end, and each location that it meets is there
  pub safe : IsSafe IsTurn (step p s) w
  -- the driver goes on only where no entry is left
  pub alone : s.entries.top.kind ≡ Absent → s.entries ≡ no_entries
  -- where it makes the row of an instruction, there is room for what this puts, and a built-in method that it enters
  pub space : s.entries.top.kind ≡ InMethod → s.raised ≡ None → HasSpace p s.entries
  pub native_space : s.entries.top.kind ≡ InMethod → s.raised ≡ None → HasNativeSpace row_here p w s.entries

-- each state that test t comes to, begun in the world w, can step
abbrev pub AllSafe : Program → ℕ → World → Type 0
AllSafe p t w = (s : State) (v : World) → Reaches p t w s v → CanStep p v s

-- what test t gives under a budget, begun in the world w, where its run answered this and left these
abbrev pub given_by : Program → ℕ → World → ℕ → Option Verdict → Kept → World → ℕ → Option Given
given_by p t w b None s w' left = None
given_by p t w b (Some v) s w' left = Some (record {
  outcome = record { verdict = v; output = s.own.output; units = b - left };
  world = w';
  touches = (run (tree p t b) w).touches;
})

-- where it gives something, a memory then follows its touches
abbrev pub TracesTest : {M : Type 0} → Program → ℕ → World → ℕ → Option Verdict → (M → Trace → List Touch → Type 0) → M → M → Type 0
TracesTest p t w b v follows old new = IsSome v → (h : Trace) (ts : List Touch) → follows old h ts → follows new h (touched (tree p t b) w ts)
