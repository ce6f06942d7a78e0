-- What the states have that a test comes to: they are typed, and there is room for what a step puts on the operands.
use Rattle.std.specs.Prelude.{◌≡◌, ℕ, ◌+◌, ◌<◌, ◌≤◌, length, Some, None, IfSome}
use Rattle.jvm_model.specs.declared.{state.EntryKind.TheVariants.Absent, state.EntryKind.TheVariants.InMethod, instr.Instr.Instr, instr.Sort.Sort}
use Rattle.jvm_model.specs.declared.instr.Instr.TheVariants as form
use Rattle.jvm_model.specs.declared.{library.Native.Native, outcome.Next.TheVariants.Enter, program.Program.Program}
use Rattle.jvm_model.specs.declared.library.Native.TheVariants as native
use Rattle.jvm_model.specs.{World.World, Access.run, Classes.method_at, Classes.form_at, Reached.Reaches, Rows.answer, State.State, Step.row_here}
use Rattle.jvm_model.specs.Entries.{Entries, no_entries, popped_entry}
use Rattle.type_frames.specs.{Typing.IsTyped, TypedState.TypedWorld, TypedState.TypedState}

-- the most operands of a frame: the operand stack of a method has at most 65,535 places (JVMS 4.7.3)
abbrev pub most_operands : ℕ
most_operands = 65535

-- no method has more places than that: its limit is a 16-bit number
abbrev pub HasStackLimits : Program → Type 0
HasStackLimits p = (m : ℕ) → IfSome (method_at p m).body (λ b. b.max_stack ≤ most_operands)

-- how many more operands there are after an instruction than before, at the most
abbrev pub puts : Instr → ℕ
puts (form.Const v) = 1
puts (form.Load x n) = 1
puts form.Dup = 1
puts form.DupX1 = 1
puts form.DupX2 = 1
puts form.Dup2 = 2
puts form.Dup2X1 = 2
puts form.Dup2X2 = 2
puts (form.GetStatic f) = 1
puts (form.New c) = 1
puts _ = 0

-- the same of a built-in method
abbrev pub native_puts : Native → ℕ
native_puts native.SystemClock = 1
native_puts native.EnvRandom = 1
native_puts _ = 0

-- each state that a test comes to, begun in a typed world, is typed
abbrev pub ReachedLaw : Type 0
ReachedLaw = (p : Program) (t : ℕ) (w v : World) (s : State) → IsTyped p → TypedWorld p w → 0 < t → t ≤ length p.tests → Reaches p t w s v → TypedState p v s

-- where no entry is at the top, there is none at all
abbrev pub AloneLaw : Type 0
AloneLaw = (p : Program) (w : World) (s : State) → TypedState p w s → s.entries.top.kind ≡ Absent → s.entries ≡ no_entries

-- there is room for what the instruction at the top puts
abbrev pub RoomLaw : Type 0
RoomLaw = (p : Program) (w : World) (s : State) (i : Instr) → IsTyped p → HasStackLimits p → TypedState p w s → s.entries.top.kind ≡ InMethod → s.raised ≡ None → form_at p s.entries.top.number s.entries.top.pc ≡ Some i → length s.entries.top.stack + puts i ≤ most_operands

-- there is room for a returned value in the frame below
abbrev pub ReturnLaw : Type 0
ReturnLaw = (p : Program) (w : World) (s : State) (x : Sort) → IsTyped p → HasStackLimits p → TypedState p w s → s.entries.top.kind ≡ InMethod → s.raised ≡ None → form_at p s.entries.top.number s.entries.top.pc ≡ Some (form.Return (Some x))
    → (popped_entry s.entries).top.kind ≡ InMethod → length (popped_entry s.entries).top.stack + 1 ≤ most_operands

-- there is room for what a built-in method answers that the instruction at the top enters
abbrev pub NativeLaw : Type 0
NativeLaw = (p : Program) (w : World) (s : State) (m : ℕ) (x : Native) (t : Entries) → IsTyped p → HasStackLimits p → TypedState p w s → s.entries.top.kind ≡ InMethod → s.raised ≡ None → (run (row_here p s.entries) w).value ≡ answer (Enter m) t → (method_at p m).native ≡ Some x
    → length t.top.stack + native_puts x ≤ most_operands
