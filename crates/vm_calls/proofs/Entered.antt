-- Calls touch nothing, and where there is a call there are its arguments.
use Rattle.std.proofs.Common.{◌≡◌, ℕ, zero, suc, List, [], ◌∷◌, ◌<◌, ◌≤◌, length, Bool, true, false, cond, nat_le, slice_get, Option, Some, None, Result, IfOk, refl, sym, subst, arith}
use Rattle.std.proofs.lemmas.{Result.IfOk-weaker, Bool.leb-true}
use Rattle.jvm_model.specs.declared.{values.Value.Value, values.Touch.Touch, values.Kind.Kind, library.Native.Native}
use Rattle.jvm_model.specs.declared.{program.Body.Body, program.Program.Program, outcome.Next.Next}
use Rattle.jvm_model.specs.{World.World, Access.Access, Classes.method_at, Entries.Entries, Entries.is_full, Rows.Answer}
use Rattle.jvm_model.specs.RowsCalls.{on_receiver, receiver, argument_count, call_special, calls, calls_selected, enters_body, enters_native}
use Rattle.jvm_model.specs.{Selection.Selected, Selection.chosen, Selection.failing, View.touched, View.IsSafe, View.IsRow}
use Rattle.class_init.proofs.Starts.{either_untouched}
use Rattle.vm_mem.specs.{Refines.Refines, Refines.Makes, Trace.Trace}
use Rattle.vm_calls.specs.Calls.{method_row, object_row}

body_touches : (b : Option Body) (m n : ℕ) (s : Entries) (w : World) (ts : List Touch) → touched (enters_body b m n s) w ts ≡ ts
body_touches None m n s w ts = refl
body_touches (Some b) m n s w ts = either_untouched (is_full s) _ _ w ts refl refl

native_touches : (x : Option Native) (b : Option Body) (m n : ℕ) (s : Entries) (w : World) (ts : List Touch) → touched (enters_native x b m n s) w ts ≡ ts
native_touches (Some x) b m n s w ts = refl
native_touches None b m n s w ts = body_touches b m n s w ts

pub calls_touches : (p : Program) (m n : ℕ) (s : Entries) (w : World) (ts : List Touch) → touched (calls p m n s) w ts ≡ ts
unfolding calls
calls_touches p m n s w ts = either_untouched (nat_le n (length s.top.stack)) _ _ w ts (native_touches (method_at p m).native (method_at p m).body m n s w ts) refl

pub selected_touches : (p : Program) (x : Selected) (n : ℕ) (s : Entries) (w : World) (ts : List Touch) → touched (calls_selected p x n s) w ts ≡ ts
selected_touches p (chosen m) n s w ts = calls_touches p m n s w ts
selected_touches p (failing c) n s w ts = refl

either_there : (b : Bool) (t u : Access (Answer Entries)) (w : World) → (IsSafe IsRow u w → b ≡ true) → IsSafe IsRow (cond b t u) w → b ≡ true
either_there true t u w f h = refl
either_there false t u w f h = f h

pub calls_there : (p : Program) (m n : ℕ) (s : Entries) (w : World) → IsSafe IsRow (calls p m n s) w → n ≤ length s.top.stack
unfolding calls
calls_there p m n s w h = leb-true n (length s.top.stack) (either_there (nat_le n (length s.top.stack)) _ _ w (λ x. absurd x) h)

-- ---- receivers

slice_within : (xs : List Value) (n : ℕ) (v : Value) → slice_get xs n ≡ Some v → n < length xs
slice_within [] n v e = absurd (cc)
slice_within (x ∷ xs) zero v e = omega arith
slice_within (x ∷ xs) (suc n) v e = let r = slice_within xs n v e in omega arith

receiver_there : (k : Value → Access (Answer Entries)) (s : Entries) (n : ℕ) (o : Option Value) (w : World) → slice_get s.top.stack n ≡ o → IsSafe IsRow (on_receiver s o k) w → n < length s.top.stack
receiver_there k s n None w e h = absurd h
receiver_there k s n (Some v) w e h = slice_within s.top.stack n v e

pub object_there : (p : Program) (i : Option ℕ) (m : ℕ) (s : Entries) (w : World) → IsSafe IsRow (object_row i m p s) w → argument_count p m < length s.top.stack
object_there p i m s w h = receiver_there _ s (argument_count p m) (receiver p m s) w refl h

pub reference_there : (p : Program) (k : Kind) (m : ℕ) (s : Entries) (w : World) → IsSafe IsRow (on_receiver s (receiver p m s) (λ v. call_special p k m s)) w → argument_count p m < length s.top.stack
reference_there p k m s w h = receiver_there _ s (argument_count p m) (receiver p m s) w refl h

-- a call that enters a method, over any memory
pub entered : {M E : Type 0} (program : M → Program) (world : M → World) (follows : M → Trace → List Touch → Type 0) (p : Program) (m n : ℕ) (k : M) → p ≡ program k
    → (s : Entries) (left : ℕ) (r : Result Next E) (s' : Entries) (left' : ℕ) → IfOk r (λ x. (w : World) → Refines (method_row m n) p w s left x s' w left')
    → Makes (method_row m n) program world follows k k s left r s' left'
entered program world follows p m n k e s left r s' left' h = (
  refl,
  IfOk-weaker r _ _ (λ x f. (
    subst (λ (q : Program). Refines (method_row m n) q (world k) s left x s' (world k) left') e (f (world k)),
    λ o h ts g. subst (λ (us : List Touch). follows k h us) (sym (calls_touches (program k) m n s (world k) ts)) g,
  )) h,
)
