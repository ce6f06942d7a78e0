-- What the law of checked code gives to each step of a test, and to its end.
use Rattle.std.proofs.Common.{◌≡◌, ◌≤◌, ◌<◌, ◌+◌, ℕ, length, refl, sym, subst, arith, Option, Some, None, IfSome, IsSome}
use Rattle.jvm_model.specs.declared.outcome.{Verdict.Verdict, Next.TheVariants.Enter}
use Rattle.jvm_model.specs.declared.instr.Instr.{Instr}
use Rattle.jvm_model.specs.declared.instr.Instr.TheVariants as form
use Rattle.jvm_model.specs.declared.library.Native.{Native}
use Rattle.jvm_model.specs.declared.library.Native.TheVariants as native
use Rattle.jvm_model.specs.declared.program.Program.{Program}
use Rattle.jvm_model.specs.declared.state.{EntryKind.EntryKind, EntryKind.TheVariants.InMethod}
use Rattle.jvm_model.specs.{World.World, Access.run, Classes.form_at, Classes.method_at, Entries.Entries, Entries.popped_entry, Rows.answer, State.State}
use Rattle.jvm_model.specs.{Step.row_here, Suite.one_test}
use Rattle.type_frames.specs.{Typing.IsTyped, TypedState.TypedWorld, TypedState.TypedState}
use Rattle.check_sound.specs.{StepLaw.StepLaw, TestLaw.LeftLaw}
use Rattle.check_sound.specs.ReachLaw.{most_operands, HasStackLimits, puts, native_puts, ReachedLaw, AloneLaw, RoomLaw, ReturnLaw, NativeLaw}
use Rattle.vm_frames.specs.Stack.{HasRoom, operand_limit}
use Rattle.vm_natives.specs.Rows.{growth}
use Rattle.vm_interp.specs.Reaching.{HasPlaceBelow, HasRoomFor, CanStep, AllSafe, given_by}
use Rattle.vm_interp.specs.declared.state.State.{State as Kept}
use Rattle.vm_interp.proofs.Framed.{frame_stays}

has_room : (s : Entries) (n : ℕ) → s.top.kind ≡ InMethod → length s.top.stack + n ≤ most_operands → HasRoom n s
has_room s n k h = subst (λ (x : EntryKind). length s.top.stack + n ≤ operand_limit x) (sym k) h

native_grows : (x : Native) → growth x ≤ native_puts x
native_grows native.SystemClock = omega arith
native_grows _ = omega arith

module _ (p : Program) (ty : IsTyped p) (limits : HasStackLimits p) (steps : StepLaw) (alone : AloneLaw) (room : RoomLaw) (back : ReturnLaw) (entered : NativeLaw) where
  module _ (w : World) (s : State) (t : TypedState p w s) (k : s.entries.top.kind ≡ InMethod) (n : s.raised ≡ None) where
    place_below : (i : Instr) → form_at p s.entries.top.number s.entries.top.pc ≡ Some i → HasPlaceBelow i s.entries
    place_below (form.Return (Some x)) f = λ q. has_room (popped_entry s.entries) 1 q (back p w s x ty limits t k n f q)
    place_below _ f = tt

    native_room : (m : ℕ) (u : Entries) → (run (row_here p s.entries) w).value ≡ answer (Enter m) u → (o : Option Native) → (method_at p m).native ≡ o → HasRoomFor o u
    native_room m u e None q = tt
    native_room m u e (Some x) q =
        let a = native_grows x in
        let b = entered p w s m x u ty limits t k n e q in
        has_room u (growth x) (frame_stays p s.entries k w m u e (subst (λ (o : Option Native). IsSome o) (sym q) (cc))) (omega arith)

  -- a typed state can step
  pub can_step : (w : World) (s : State) → TypedState p w s → CanStep p w s
  can_step w s t = record {
    safe = (steps p w s ty t).0;
    alone = alone p w s t;
    space = λ k n. record { room = λ i f. has_room s.entries (puts i) k (room p w s i ty limits t k n f); below = λ i f. place_below w s t k n i f };
    native_space = λ k n m u e. native_room w s t k n m u e (method_at p m).native refl;
  }

  -- and so can each that a test comes to, begun in a typed world
  pub all_safe : ReachedLaw → (t : ℕ) (w : World) → TypedWorld p w → 0 < t → t ≤ length p.tests → AllSafe p t w
  all_safe reached t w h low high s v r = can_step v s (reached p t w v s ty h low high r)

-- the world is typed that a test leaves
pub typed_left : LeftLaw → (p : Program) (t b : ℕ) (w : World) (v : Option Verdict) (s : Kept) (w' : World) (left : ℕ) → IsTyped p → TypedWorld p w → 0 < t → t ≤ length p.tests →
    one_test p w t b ≡ given_by p t w b v s w' left → IfSome v (λ x. TypedWorld p w')
typed_left law p t b w None s w' left ty h low high e = tt
typed_left law p t b w (Some x) s w' left ty h low high e = law p t b w _ ty h low high e
