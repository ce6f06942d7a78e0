-- Rows that enter no built-in method, and room for one that a row enters.
use Rattle.std.proofs.Common.{◌≡◌, ◌≢◌, ℕ, List, [], ◌∷◌, ◌+◌, Bool, true, false, not, ◌&&◌, cond, refl, sym, ap, ◌∙◌, Option, Some, None}
use Rattle.jvm_model.specs.declared.values.{Value.Value, InitState.InitState}
use Rattle.jvm_model.specs.declared.values.Value.TheVariants.{Int, Long, Null, Lit, Obj}
use Rattle.jvm_model.specs.declared.values.InitState.TheVariants.{Idle, Running, Done, Erroneous}
use Rattle.jvm_model.specs.declared.outcome.Next.{Next}
use Rattle.jvm_model.specs.declared.outcome.Next.TheVariants.{Go, Fault, Raise, Enter, Leave, Over}
use Rattle.jvm_model.specs.declared.program.{Body.Body, Program.Program}
use Rattle.jvm_model.specs.declared.state.{EntryKind.EntryKind, EntryKind.TheVariants.Absent, EntryKind.TheVariants.InMethod, EntryKind.TheVariants.InClass}
use Rattle.jvm_model.specs.{World.World, Access.Access, Access.run, Builtin.error_class, Kinds.class_of, Rows.Answer, Rows.answer, View.paid, View.counts_one}
use Rattle.jvm_model.specs.Classes.{class_at, method_at, is_below}
use Rattle.jvm_model.specs.Entries.{Entries, popped_entry, is_full}
use Rattle.jvm_model.specs.Initialise.{Part, starts_body, starts, looked_at, looks, left_at, parts_of, finishing, row_finish, row_fail, was_entered, fails, fails_anew}
use Rattle.jvm_model.specs.Raising.{handled, handler_for, row_raise}
use Rattle.jvm_model.proofs.Bridges.{counted_is}
use Rattle.vm_mem.specs.Refines.{Row, Refines}
use Rattle.vm_interp.proofs.Leaves.{Each, each_run, each_either}
use Rattle.vm_interp.proofs.{Whole.ended_so, Stepped.answered}
use Rattle.vm_interp.specs.Reaching.{HasRoomAfter, HasNativeSpace}

abbrev pub enters : Answer Entries → Bool
enters (answer (Enter m) s) = true
enters _ = false

abbrev pub NoEntry : Access (Answer Entries) → Type 0
NoEntry t = Each (λ a. enters a ≡ false) t

either : (b : Bool) (t u : Access (Answer Entries)) → NoEntry t → NoEntry u → NoEntry (cond b t u)
either b t u g h = each_either (λ a. enters a ≡ false) b t u g h

handled_so : (v : Value) (s : Entries) (o : Option ℕ) → NoEntry (handled v s o)
handled_so v s None = refl
handled_so v s (Some n) = refl

pub raise_enters_none : (p : Program) (v : Value) (s : Entries) → NoEntry (row_raise p v s)
unfolding row_raise
raise_enters_none p (Obj o) s = λ h. handled_so (Obj o) s (handler_for p s.top.number s.top.pc (class_of h.kind))
raise_enters_none p _ s = refl

pub fail_enters_none : (p : Program) (v : Value) (s : Entries) → NoEntry (row_fail p v s)
unfolding row_fail
fail_enters_none p (Obj o) s = λ h. either (was_entered s.top.kind && not (is_below p (class_of h.kind) error_class)) (fails_anew p s) (fails (Obj o) s) (λ o. refl) refl
fail_enters_none p _ s = refl

body_so : (b : Option Body) (m n : ℕ) (s : Entries) → NoEntry (starts_body b m n s)
body_so None m n s = refl
body_so (Some b) m n s = either (is_full s) _ _ refl refl

starts_so : (p : Program) (i : Option ℕ) (n : ℕ) (s : Entries) → NoEntry (starts p i n s)
starts_so p None n s = refl
starts_so p (Some m) n s = body_so (method_at p m).body m n s

looked_so : (c n : ℕ) (s : Entries) (rest : Access (Answer Entries)) (st : InitState) → NoEntry rest → NoEntry (looked_at c n s rest st)
looked_so c n s rest Idle h = either (is_full s) _ _ refl refl
looked_so c n s rest Erroneous h = refl
looked_so c n s rest _ h = h

looks_so : (p : Program) (xs : List Part) (n : ℕ) (s : Entries) → NoEntry (looks p xs n s)
looks_so p [] n s = starts_so p (class_at p s.top.number).initialiser n s
looks_so p (x ∷ xs) n s = λ st. looked_so x.class (n + x.price) s (looks p xs (n + x.price) s) st (looks_so p xs (n + x.price) s)

left_so : (k : EntryKind) (t : Entries) → enters (answer (left_at k) t) ≡ false
left_so Absent t = refl
left_so _ t = refl

finishing_so : (k : EntryKind) (p : Program) (s : Entries) → NoEntry (finishing k p s)
finishing_so (InClass false) p s = looks_so p (parts_of p s.top.number) 0 s
finishing_so (InClass true) p s = left_so (popped_entry s).top.kind (popped_entry s)
finishing_so _ p s = refl

pub finish_enters_none : (p : Program) (s : Entries) → NoEntry (row_finish p s)
unfolding row_finish
finish_enters_none p s = finishing_so s.top.kind p s

paid_value : (b : Bool) (t : Access (Answer Entries)) (w : World) → (run (paid b t) w).value ≡ (run t w).value
paid_value true t w = refl
paid_value false t w = refl

module _ (r : Row Entries) (p : Program) (w : World) (s : Entries) (left : ℕ) (x : Next) (t : Entries) (w' : World) (left' : ℕ) (h : x ≢ Over) (e : Refines r p w s left x t w' left') where
  row_value : (run (r p s) w).value ≡ answer x t
  row_value = sym (paid_value (counts_one p x) (r p s) w)
      ∙ (ended_so (run (paid (counts_one p x) (r p s)) w) left (answer x t) w' left' (sym (counted_is (paid (counts_one p x) (r p s)) w left) ∙ e ∙ answered x t w' left' h)).value

  room_by : (y : Next) → x ≡ y → ((m : ℕ) → (run (r p s) w).value ≡ answer (Enter m) t → HasRoomAfter (Enter m) p t) → HasRoomAfter y p t
  room_by (Enter m) d f = f m (row_value ∙ ap (λ (z : Next). answer z t) d)
  room_by _ d f = tt

  -- there is room for a built-in method that the row enters
  pub room_then : HasNativeSpace r p w s → HasRoomAfter x p t
  room_then f = room_by x refl (λ m d. f m t d)

  -- the row enters none
  pub no_room : NoEntry (r p s) → HasRoomAfter x p t
  no_room n = room_by x refl (λ m d. absurd (let z : true ≡ false = sym (ap enters d) ∙ each_run (λ a. enters a ≡ false) (r p s) w n in cc))
