-- The whole step of a typed state: its row, what comes after it, and what the run leaves.
use Rattle.std.proofs.Common.{◌≡◌, ℕ, Option, Some, None, IfSome, refl, sym, subst}
use Rattle.jvm_model.specs.declared.values.Value.{Value}
use Rattle.jvm_model.specs.declared.state.{EntryKind.EntryKind, EntryKind.TheVariants.Absent, EntryKind.TheVariants.InMethod, EntryKind.TheVariants.InClass}
use Rattle.jvm_model.specs.declared.{instr.Instr.Instr, library.Native.Native, program.Program.Program}
use Rattle.jvm_model.specs.declared.instr.Instr.TheVariants as form
use Rattle.jvm_model.specs.declared.outcome.Next.TheVariants as after
use Rattle.jvm_model.specs.{World.World, Rows.Answer, Rows.answer, View.IsSafe, View.IsTurn}
use Rattle.jvm_model.specs.Access.{Access, bind, run}
use Rattle.jvm_model.specs.{Classes.method_at, Entries.Entries, Natives.row_native, Driver.drive, RowsStatics.row_statics, RowsFields.row_fields}
use Rattle.jvm_model.specs.{RowsCreate.row_create, RowsArrays.row_arrays, RowsCasts.row_casts, Raising.row_raise, Initialise.row_finish, Initialise.row_fail}
use Rattle.jvm_model.specs.State.{State, Turn, next, ended, stuck_turn, test_at, with_entries}
use Rattle.jvm_model.specs.Step.{Group, moves, arith as of_arith, branches, statics, fields, create, arrays, casts, calls, returns, throw, group_of, row_throw, row_of, row, after_native, entered, after_row, row_or_none, row_here, acts, step}
use Rattle.type_frames.specs.{Typing.IsTyped, TypedState.TypedWorld, TypedState.TypedState, TypedState.IsThrowable}
use Rattle.check_sound.specs.StepLaw.{StaysTyped}
use Rattle.check_sound.proofs.Tree.{Tree, typed_done, typed_spend, Over, Alike}
use Rattle.check_sound.proofs.{Grow.alike_over, Grow.throwable_over, TreeRuns.alike_itself, TreeRuns.tree_walk, TreeRuns.bind_over}
use Rattle.check_sound.proofs.{Onward.grows_alike, Onward.entries_grow, MoveRows.moves-typed, ArithRows.arith-typed}
use Rattle.check_sound.proofs.Ready.{TypedEntries, NativeCall, Enters, Ends, Quiet, Row, Ready, ready}
use Rattle.check_sound.proofs.Ends.{Local, TurnsTo, Step, Tested, tested, tested_over, stage_over, raise_typed, goes_typed, throws-typed}
use Rattle.check_sound.proofs.{BranchRows.branches-typed, CallRows.calls-typed, ReturnRows.returns-typed, RaiseRows.raise-typed}
use Rattle.check_sound.proofs.InitRows.{finish-typed, fail-typed}

-- what the other groups of rows, the built-in methods and the driver say
pub record Groups (p : Program) : Type 0 where
  pub statics-row : (w : World) (s : Entries) (i : Instr) → group_of i ≡ statics → Ready p w s i → Row p w (row_statics p i s)
  pub fields-row : (w : World) (s : Entries) (i : Instr) → group_of i ≡ fields → Ready p w s i → Row p w (row_fields p i s)
  pub create-row : (w : World) (s : Entries) (i : Instr) → group_of i ≡ create → Ready p w s i → Row p w (row_create p i s)
  pub arrays-row : (w : World) (s : Entries) (i : Instr) → group_of i ≡ arrays → Ready p w s i → Row p w (row_arrays p i s)
  pub casts-row : (w : World) (s : Entries) (i : Instr) → group_of i ≡ casts → Ready p w s i → Row p w (row_casts p i s)
  pub throw-row : (w : World) (s : Entries) → Ready p w s form.Throw → Row p w (row_throw s)
  pub native-step : (w : World) (x : Native) (m : ℕ) (s : State) (t : Entries) → (method_at p m).native ≡ Some x → s.raised ≡ None → NativeCall p w m t → Tested p w s → Step p w (bind (row_native p x (record { entries = t; own = s.own })) (after_native p s))
  pub drive-step : (w : World) (s : State) → Local p w s → s.entries.top.kind ≡ Absent → Step p w (drive p s)

module _ (p : Program) (ty : IsTyped p) (gs : Groups p) where
  thrown-typed : (w : World) (s : Entries) (i : Instr) → group_of i ≡ throw → Ready p w s i → Row p w (row_throw s)
  thrown-typed w s form.Throw g r = gs.throw-row w s r
  thrown-typed w s _ g r = absurd (cc)

  row-typed : (w : World) (s : Entries) (i : Instr) → Ready p w s i → Row p w (row p i s)
  unfolding row
  row-typed w s i r = by (group_of i) refl
    where
      by : (g : Group) → group_of i ≡ g → Row p w (row_of g p i s)
      by moves q = moves-typed p ty i q r
      by of_arith q = arith-typed p ty i q r
      by branches q = branches-typed p ty i q r
      by statics q = gs.statics-row w s i q r
      by fields q = gs.fields-row w s i q r
      by create q = gs.create-row w s i q r
      by arrays q = gs.arrays-row w s i q r
      by casts q = gs.casts-row w s i q r
      by calls q = calls-typed p ty i q r
      by returns q = returns-typed p ty i q r
      by throw q = thrown-typed w s i q r

  pub here-typed : (w : World) (s : Entries) → s.top.kind ≡ InMethod → TypedEntries p w None s → Row p w (row_here p s)
  unfolding row_here
  here-typed w s k t = let r = ready p ty s k t in subst (λ (o : Option Instr). Row p w (row_or_none p o s)) (sym r.1) (row-typed w s r.0 r.2)

  quiet-typed : (w : World) (s : State) (a : Answer Entries) → Tested p w s → Quiet p w a → Step p w (after_row p s a)
  quiet-typed w s (answer after.Go t) q h = typed_done (goes_typed p w s t h q)
  quiet-typed w s (answer (after.Fault c) t) q h = throws-typed p ty c (with_entries s t) h.0 h.1 (record { test = q.test; stage = q.stage })
  quiet-typed w s (answer (after.Raise v) t) q h = typed_done (raise_typed p w v (with_entries s t) h.0 h.1 (record { test = q.test; stage = q.stage }))
  quiet-typed w s (answer after.Leave t) q h = typed_done (goes_typed p w s t h q)
  quiet-typed w s _ q h = absurd h

  after-typed : (w : World) (s : State) (a : Answer Entries) → s.raised ≡ None → Tested p w s → Ends p w a → Step p w (after_row p s a)
  after-typed w s (answer after.Go t) n q h = typed_done (goes_typed p w s t h q)
  after-typed w s (answer (after.Fault c) t) n q h = throws-typed p ty c (with_entries s t) h.0 h.1 (record { test = q.test; stage = q.stage })
  after-typed w s (answer (after.Raise v) t) n q h = typed_done (raise_typed p w v (with_entries s t) h.0 h.1 (record { test = q.test; stage = q.stage }))
  after-typed w s (answer (after.Enter m) t) n q h = by (method_at p m).native refl h
    where
      by : (x : Option Native) → (method_at p m).native ≡ x → Enters p w m x t → Step p w (entered p s x t)
      by None e h = typed_done (goes_typed p w s t h q)
      by (Some x) e h = gs.native-step w x m s t e n h q
  after-typed w s (answer after.Leave t) n q h = typed_done (goes_typed p w s t h q)
  after-typed w s _ n q h = absurd h

  then-typed : (w : World) (s : State) (t : Access (Answer Entries)) → s.raised ≡ None → Local p w s → Row p w t → Step p w (bind t (after_row p s))
  then-typed w s t n h r = bind_over p (Ends p) (TurnsTo p) t (after_row p s) w r (λ v a g e. after-typed v s a n (tested_over p w v g s (tested h)) e)

  then-quiet : (w : World) (s : State) (t : Access (Answer Entries)) → Local p w s → Tree p (Quiet p) w t → Step p w (bind t (after_row p s))
  then-quiet w s t h r = bind_over p (Quiet p) (TurnsTo p) t (after_row p s) w r (λ v a g e. quiet-typed v s a (tested_over p w v g s (tested h)) e)

  acts-typed : (w : World) (s : State) → Local p w s → Step p w (acts p s.entries.top.kind s.raised s)
  acts-typed w s h = by s.entries.top.kind s.raised refl refl h.entries h.raised
    where
      by : (k : EntryKind) (x : Option Value) → s.entries.top.kind ≡ k → s.raised ≡ x → TypedEntries p w x s.entries → IfSome x (IsThrowable p w) → Step p w (acts p k x s)
      by Absent x q n t i = gs.drive-step w s h q
      by InMethod None q n t i = then-typed w s (row_here p s.entries) n h (here-typed w s.entries q t)
      by InMethod (Some v) q n t i = then-quiet w s (row_raise p v s.entries) h (raise-typed p ty v q i t)
      by (InClass b) None q n t i = then-typed w s (row_finish p s.entries) n h (finish-typed p ty b q t)
      by (InClass b) (Some v) q n t i = then-quiet w s (row_fail p v s.entries) h (fail-typed p ty b v q i t)

  pub step-typed : (w : World) (s : State) → Local p w s → Step p w (step p s)
  unfolding step
  step-typed w s h = typed_spend (acts-typed w s h)

  -- ---- typed states

  pub local_of : (w : World) (s : State) → TypedState p w s → Local p w s
  local_of w s t = record { test = t.test; entries = record { references = t.references; few = t.few; alone = t.alone; top = t.top; below = t.below; one_each = t.one_each }; raised = t.raised; stage = t.stage }

  some_over : (u w : World) → Over u w → (x : Option Value) → IfSome x (IsThrowable p u) → IfSome x (IsThrowable p w)
  some_over u w g None h = tt
  some_over u w g (Some v) h = throwable_over p u w g v h

  typed_of : (u w : World) (s : State) → Alike u w → TypedWorld p w → Local p u s → TypedState p w s
  typed_of u w s a t h =
      let e = entries_grow s.raised s.entries (grows_alike u w a) h.entries in
      record { test = h.test; world = t; references = e.references; few = e.few; alone = e.alone; top = e.top; below = e.below; one_each = e.one_each; raised = some_over u w (alike_over u w a) s.raised h.raised; stage = stage_over p u w (alike_over u w a) (test_at p s.test) s.stage h.stage }

  left : (u w : World) (x : Turn) → Alike u w → TypedWorld p w → TurnsTo p u x → StaysTyped p w x
  left u w (next s) a t h = typed_of u w s a t h
  left u w (ended v o) a t h = t
  left u w stuck_turn a t h = absurd h

  is_turn : (v : World) (x : Turn) → TurnsTo p v x → IsTurn x
  is_turn v stuck_turn h = h
  is_turn v _ h = tt

  pub stays_typed : (w : World) (s : State) → TypedState p w s → IsSafe IsTurn (step p s) w × StaysTyped p (run (step p s) w).world (run (step p s) w).value
  stays_typed w s t =
      let x = tree_walk p (TurnsTo p) IsTurn is_turn (step p s) w w (alike_itself w) t.world (step-typed w s (local_of w s t)) in
      (x.0, left x.1.seen (run (step p s) w).world (run (step p s) w).value x.1.alike x.1.world x.1.answer)
