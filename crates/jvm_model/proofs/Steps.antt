-- A step by its parts.
use Rattle.std.proofs.Common.{◌≡◌, ℕ, List, Bool, true, false, ap, ◌∙◌, not, Some, None}
use Rattle.jvm_model.specs.declared.values.{Value.Value, Touch.Touch}
use Rattle.jvm_model.specs.declared.state.EntryKind.TheVariants.{Absent, InMethod, InClass}
use Rattle.jvm_model.specs.{declared.program.Program.Program, World.World, Entries.Entries, Initialise.row_finish, Initialise.row_fail, Raising.row_raise}
use Rattle.jvm_model.specs.{Working.Working, State.State, Access.Access, Access.spend, Access.bind, Rows.Answer, Rows.answer, Rows.stuck_row, Driver.drive}
use Rattle.jvm_model.specs.Step.{row_here, after_row, after_native, acts, step}
use Rattle.jvm_model.specs.View.{over, ended, counted, and_then, touched, IsSafe, IsRow, IsTurn, paid}
use Rattle.jvm_model.proofs.{Binds.counted_bind, Binds.touched_bind, Binds.safe_first, Binds.safe_rest, Bridges.spent_later}

-- which row a step is of
pub step_drives : (p : Program) (s : State) → s.entries.top.kind ≡ Absent → step p s ≡ spend 1 (drive p s)
unfolding step
step_drives p s e = ap (λ k. spend 1 (acts p k s.raised s)) e

pub step_runs : (p : Program) (s : State) → s.entries.top.kind ≡ InMethod → s.raised ≡ None → step p s ≡ spend 1 (bind (row_here p s.entries) (after_row p s))
unfolding step
step_runs p s e f = ap (λ k. spend 1 (acts p k s.raised s)) e ∙ ap (λ r. spend 1 (acts p InMethod r s)) f

pub step_raises : (p : Program) (s : State) (v : Value) → s.entries.top.kind ≡ InMethod → s.raised ≡ Some v → step p s ≡ spend 1 (bind (row_raise p v s.entries) (after_row p s))
unfolding step
step_raises p s v e f = ap (λ k. spend 1 (acts p k s.raised s)) e ∙ ap (λ r. spend 1 (acts p InMethod r s)) f

pub step_finishes : (p : Program) (s : State) (b : Bool) → s.entries.top.kind ≡ InClass b → s.raised ≡ None → step p s ≡ spend 1 (bind (row_finish p s.entries) (after_row p s))
unfolding step
step_finishes p s b e f = ap (λ k. spend 1 (acts p k s.raised s)) e ∙ ap (λ r. spend 1 (acts p (InClass b) r s)) f

pub step_fails : (p : Program) (s : State) (b : Bool) (v : Value) → s.entries.top.kind ≡ InClass b → s.raised ≡ Some v → step p s ≡ spend 1 (bind (row_fail p v s.entries) (after_row p s))
unfolding step
step_fails p s b v e f = ap (λ k. spend 1 (acts p k s.raised s)) e ∙ ap (λ r. spend 1 (acts p (InClass b) r s)) f

good_row : (p : Program) (s : State) (a : Answer Entries) (w : World) → IsSafe IsTurn (after_row p s a) w → IsRow a
good_row p s stuck_row w h = h
good_row p s (answer x t) w h = tt

-- where the step is safe, so is its row
pub safe_row : (p : Program) (s : State) (r : Access (Answer Entries)) (w : World) → IsSafe IsTurn (spend 1 (bind r (after_row p s))) w → IsSafe IsRow r w
safe_row p s r w h = safe_first IsRow IsTurn r (after_row p s) w (λ a v g. good_row p s a v g) h

good_native : (p : Program) (s : State) (a : Answer Working) (w : World) → IsSafe IsTurn (after_native p s a) w → IsRow a
good_native p s stuck_row w h = h
good_native p s (answer x t) w h = tt

pub safe_native : (p : Program) (s : State) (r : Access (Answer Working)) (w : World) → IsSafe IsTurn (bind r (after_native p s)) w → IsSafe IsRow r w
safe_native p s r w h = safe_first IsRow IsTurn r (after_native p s) w (λ a v g. good_native p s a v g) h

-- The step after its row, which counted the step's 1 or left it to what follows.
pub step_paid : (p : Program) (s : State) (b : Bool) (r : Access (Answer Entries)) (w : World) (left : ℕ) (a : Answer Entries) (w' : World) (left' : ℕ) → counted (paid b r) w left ≡ ended a w' left' →
    counted (spend 1 (bind r (after_row p s))) w left ≡ counted (paid (not b) (after_row p s a)) w' left'
step_paid p s true r w left a w' left' e = counted_bind (spend 1 r) (after_row p s) w left ∙ ap (λ x. and_then x (after_row p s)) e
step_paid p s false r w left a w' left' e = spent_later 1 r (after_row p s) w left a w' left' e

pub step_over : (p : Program) (s : State) (r : Access (Answer Entries)) (w : World) (left : ℕ) → counted (spend 1 r) w left ≡ over → counted (spend 1 (bind r (after_row p s))) w left ≡ over
step_over p s r w left e = counted_bind (spend 1 r) (after_row p s) w left ∙ ap (λ x. and_then x (after_row p s)) e

pub step_touches : (p : Program) (s : State) (b : Bool) (r : Access (Answer Entries)) (w : World) (left : ℕ) (a : Answer Entries) (w' : World) (left' : ℕ) → counted (paid b r) w left ≡ ended a w' left' →
    (ts : List Touch) → touched (spend 1 (bind r (after_row p s))) w ts ≡ touched (after_row p s a) w' (touched r w ts)
step_touches p s true r w left a w' left' e ts = touched_bind (spend 1 r) (after_row p s) w left a w' left' e ts
step_touches p s false r w left a w' left' e ts = touched_bind r (after_row p s) w left a w' left' e ts

pub step_safe : (p : Program) (s : State) (b : Bool) (r : Access (Answer Entries)) (w : World) (left : ℕ) (a : Answer Entries) (w' : World) (left' : ℕ) → counted (paid b r) w left ≡ ended a w' left' →
    IsSafe IsTurn (spend 1 (bind r (after_row p s))) w → IsSafe IsTurn (after_row p s a) w'
step_safe p s true r w left a w' left' e h = safe_rest IsTurn (spend 1 r) (after_row p s) w left a w' left' e h
step_safe p s false r w left a w' left' e h = safe_rest IsTurn r (after_row p s) w left a w' left' e h
