-- Where no entry is at the top, nothing is raised: the states that a test comes to.
use Rattle.std.proofs.Common.{◌≡◌, ℕ, Bool, true, false, cond, List, [], ◌∷◌, Option, Some, None, refl, sym, ◌∙◌, subst}
use Rattle.jvm_model.specs.declared.{values.Value.Value, library.Native.Native, outcome.Verdict.TheVariants.Failed, outcome.Verdict.TheVariants.Error}
use Rattle.jvm_model.specs.declared.values.Value.TheVariants.{Int, Long, Null, Lit, Obj}
use Rattle.jvm_model.specs.declared.outcome.Next.TheVariants.{Go, Fault, Raise, Enter, Leave, Over}
use Rattle.jvm_model.specs.declared.{program.Body.Body, program.Program.Program, state.EntryKind.EntryKind}
use Rattle.jvm_model.specs.declared.state.{EntryKind.TheVariants.Absent, EntryKind.TheVariants.InMethod, EntryKind.TheVariants.InClass, Stage.Stage}
use Rattle.jvm_model.specs.{Builtin.abstract_method_error, Builtin.assertion_error, Entries.Entries, Natives.row_native, Raising.handled, Raising.row_raise}
use Rattle.jvm_model.specs.declared.state.Stage.TheVariants.{First, Made, Built, SetUp, Called, Last}
use Rattle.jvm_model.specs.World.{World, Content, at, put, size, make_object}
use Rattle.jvm_model.specs.Access.{Access, done, read, write, make, spend, bind, run}
use Rattle.jvm_model.specs.{Initialise.row_finish, Initialise.fails, Initialise.fails_anew, Initialise.row_fail, Reached.Reaches, Reached.begins, Reached.steps}
use Rattle.jvm_model.specs.Classes.{class_at, init_name, is_below, is_static, literal_at, method_at, upwards}
use Rattle.jvm_model.specs.Driver.{set_up_name, tear_down_name, plain_method_in, plain_method_of, driven, drives, once_driven, makes, drive_first, drive_init, drive_method, drive_set_up, judged, judged_message, judged_value, judge, drive_tear_down, drive_at, drive}
use Rattle.jvm_model.specs.{Throwing.throws, Working.Working}
use Rattle.jvm_model.specs.Rows.{Answer, answer, stuck_row, on_object, ready, begun, refused, begin, Used}
use Rattle.jvm_model.specs.State.{State, Turn, next, ended, stuck_turn, raised_in, raise, test_at, with_entries}
use Rattle.jvm_model.specs.Step.{after_native, entered, after_row, row_here, acts, step}

-- each end of a program of accesses is such
abbrev EndsIn : {A : Type 0} → (A → Type 0) → Access A → Type 0
EndsIn P (done a) = P a
EndsIn P (read l k) = (x : Content l) → EndsIn P (k x)
EndsIn P (write l x t) = EndsIn P t
EndsIn P (make x k) = (o : ℕ) → EndsIn P (k o)
EndsIn P (spend n t) = EndsIn P t

ends_run : {A : Type 0} (P : A → Type 0) (t : Access A) (w : World) → EndsIn P t → P (run t w).value
ends_run P (done a) w h = h
ends_run P (read l k) w h = ends_run P (k (at w l)) w (h (at w l))
ends_run P (write l x t) w h = ends_run P t (put w l x) h
ends_run P (make x k) w h = ends_run P (k (size w)) (make_object w x) (h (size w))
ends_run P (spend n t) w h = ends_run P t w h

ends_bind : {A B : Type 0} (P : B → Type 0) (Q : A → Type 0) (t : Access A) (f : A → Access B) → EndsIn Q t → ((a : A) → Q a → EndsIn P (f a)) → EndsIn P (bind t f)
ends_bind P Q (done a) f h g = g a h
ends_bind P Q (read l k) f h g = λ x. ends_bind P Q (k x) f (h x) g
ends_bind P Q (write l x t) f h g = ends_bind P Q t f h g
ends_bind P Q (make x k) f h g = λ o. ends_bind P Q (k o) f (h o) g
ends_bind P Q (spend n t) f h g = ends_bind P Q t f h g

abbrev Any : {A : Type 0} → A → Type 0
Any a = Unit {0}

ends_any : {A : Type 0} (t : Access A) → EndsIn Any t
ends_any (done a) = tt
ends_any (read l k) = λ x. ends_any (k x)
ends_any (write l x t) = ends_any t
ends_any (make x k) = λ o. ends_any (k o)
ends_any (spend n t) = ends_any t

abbrev pub IsCalm : State → Type 0
IsCalm s = s.entries.top.kind ≡ Absent → s.raised ≡ None

abbrev CalmTurn : Turn → Type 0
CalmTurn (next s) = IsCalm s
CalmTurn _ = Unit {0}

-- the row enters a method
abbrev Enters : Answer Entries → Type 0
Enters (answer (Enter m) t) = Unit {0}
Enters _ = ⊥

abbrev EntersNone : Answer Entries → Type 0
EntersNone a = Enters a → ⊥

-- ---- after a row

raised_calm : (k : EntryKind) (v : Value) (s : State) → s.entries.top.kind ≡ k → IsCalm (raised_in k v s)
raised_calm Absent v s e = λ q. refl
raised_calm InMethod v s e = λ q. absurd (let z : InMethod ≡ Absent = sym e ∙ q in cc)
raised_calm (InClass b) v s e = λ q. absurd (let z : InClass b ≡ Absent = sym e ∙ q in cc)

raise_calm : (v : Value) (s : State) → IsCalm (raise v s)
raise_calm v s = raised_calm s.entries.top.kind v s refl

throws_calm : (p : Program) (c : ℕ) (s : State) → EndsIn CalmTurn (throws p c s)
unfolding throws
throws_calm p c s = λ o. raise_calm (Obj o) s

native_calm : (p : Program) (s : State) → s.raised ≡ None → (a : Answer Working) → EndsIn CalmTurn (after_native p s a)
native_calm p s n (answer Go t) = λ q. n
native_calm p s n (answer (Fault c) t) = throws_calm p c (record s { entries = t.entries; own = t.own })
native_calm p s n _ = tt

entered_calm : (p : Program) (s : State) → s.raised ≡ None → (o : Option Native) (t : Entries) → EndsIn CalmTurn (entered p s o t)
entered_calm p s n None t = λ q. refl
entered_calm p s n (Some x) t = let u : Working = record { entries = t; own = s.own } in ends_bind CalmTurn Any (row_native p x u) (after_native p s) (ends_any (row_native p x u)) (λ a h. native_calm p s n a)

after_calm : (p : Program) (s : State) (a : Answer Entries) → (Enters a → s.raised ≡ None) → EndsIn CalmTurn (after_row p s a)
after_calm p s (answer Go t) h = λ q. refl
after_calm p s (answer (Fault c) t) h = throws_calm p c (with_entries s t)
after_calm p s (answer (Raise v) t) h = raise_calm v (with_entries s t)
after_calm p s (answer (Enter m) t) h = entered_calm p s (h tt) (method_at p m).native t
after_calm p s (answer Leave t) h = λ q. refl
after_calm p s _ h = tt

-- ---- a throwable is raised

object_ends : (s : Entries) (v : Value) (k : ℕ → Access (Answer Entries)) → ((o : ℕ) → EndsIn EntersNone (k o)) → EndsIn EntersNone (on_object s v k)
object_ends s (Obj o) k f = f o
object_ends s _ k f = λ x. x

handled_ends : (v : Value) (s : Entries) (o : Option ℕ) → EndsIn EntersNone (handled v s o)
handled_ends v s None = λ x. x
handled_ends v s (Some n) = λ x. x

raise_ends : (p : Program) (v : Value) (s : Entries) → EndsIn EntersNone (row_raise p v s)
unfolding row_raise
raise_ends p v s = object_ends s v _ (λ o h. handled_ends v s _)

fail_ends : (p : Program) (v : Value) (s : Entries) → EndsIn EntersNone (row_fail p v s)
unfolding row_fail
fail_ends p v s = object_ends s v _ (λ o h. by _)
  where
    by : (b : Bool) → EndsIn EntersNone (cond b (fails_anew p s) (fails v s))
    by true = λ o x. x
    by false = λ x. x

-- ---- the driver

module _ (p : Program) (s : State) (calm : s.raised ≡ None) where
  driven_calm : (b : Option Body) (m : ℕ) (vs : List Value) (x : Stage) → EndsIn CalmTurn (driven p b m vs x s)
  driven_calm None m vs x = throws_calm p abstract_method_error (record s { stage = x })
  driven_calm (Some b) m vs x = λ q. absurd (cc)

  drives_calm : (m : ℕ) (vs : List Value) (x : Stage) → EndsIn CalmTurn (drives p m vs x s)
  unfolding drives
  drives_calm m vs x = driven_calm (method_at p m).body m vs x

  makes_calm : (c : ℕ) → EndsIn CalmTurn (makes p c s)
  makes_calm c = λ o q. calm

  once_calm : (k : Access Turn) → EndsIn CalmTurn k → (u : Used) → EndsIn CalmTurn (once_driven p s k u)
  once_calm k h ready = h
  once_calm k h (begun t) = λ q. refl
  once_calm k h (refused c) = throws_calm p c s

  begin_calm : (c : ℕ) (k : Access Turn) → EndsIn CalmTurn k → EndsIn CalmTurn (bind (begin p c s.entries) (once_driven p s k))
  begin_calm c k h = ends_bind CalmTurn Any (begin p c s.entries) (once_driven p s k) (ends_any (begin p c s.entries)) (λ u i. once_calm k h u)

  first_calm : EndsIn CalmTurn (drive_first p s)
  unfolding drive_first
  first_calm = by (is_static (method_at p (test_at p s.test).method).flags)
    where
      by : (b : Bool) → EndsIn CalmTurn (cond b (bind (begin p (method_at p (test_at p s.test).method).class s.entries) (once_driven p s (drives p (test_at p s.test).method [] (Last None) s))) (bind (begin p (test_at p s.test).class s.entries) (once_driven p s (makes p (test_at p s.test).class s))))
      by true = begin_calm (method_at p (test_at p s.test).method).class (drives p (test_at p s.test).method [] (Last None) s) (drives_calm (test_at p s.test).method [] (Last None))
      by false = begin_calm (test_at p s.test).class (makes p (test_at p s.test).class s) (makes_calm (test_at p s.test).class)

  or_calm : (o : Option ℕ) (k : Access Turn) (vs : List Value) (x : Stage) → EndsIn CalmTurn k → EndsIn CalmTurn (elim o [ None ↦ k | Some m ↦ drives p m vs x s ])
  or_calm None k vs x h = h
  or_calm (Some m) k vs x h = drives_calm m vs x

  judged_calm : (out : List ℕ) (c : ℕ) (t : Option (List ℕ)) → CalmTurn (judged p out c t)
  judged_calm out c t = by (is_below p c assertion_error)
    where
      by : (b : Bool) → CalmTurn (cond b (ended (Failed (record { class = c; message = t })) out) (ended (Error (record { class = c; message = t })) out))
      by true = tt
      by false = tt

  message_calm : (out : List ℕ) (c : ℕ) (v : Value) → EndsIn CalmTurn (judged_message p out c v)
  message_calm out c Null = judged_calm out c None
  message_calm out c (Lit n) = judged_calm out c (Some (literal_at p n))
  message_calm out c (Obj o) = λ t. judged_calm out c (Some t)
  message_calm out c _ = tt

  value_calm : (out : List ℕ) (v : Value) → EndsIn CalmTurn (judged_value p out v)
  value_calm out (Obj o) = λ h v. message_calm out _ v
  value_calm out _ = tt

  judge_calm : (o : Option Value) → EndsIn CalmTurn (judge p o s)
  unfolding judge
  judge_calm None = tt
  judge_calm (Some v) = value_calm s.own.output v

  stage_calm : (x : Stage) → EndsIn CalmTurn (drive_at p x s)
  unfolding drive_init drive_method drive_set_up drive_tear_down
  stage_calm First = first_calm
  stage_calm (Made o) = or_calm (plain_method_in p init_name (class_at p (test_at p s.test).class).methods) (done stuck_turn) (Obj o ∷ []) (Built o) tt
  stage_calm (Built o) = or_calm (plain_method_of p set_up_name (upwards p (test_at p s.test).class)) _ (Obj o ∷ []) (SetUp o) (drives_calm _ (Obj o ∷ []) (Called o None))
  stage_calm (SetUp o) = drives_calm _ (Obj o ∷ []) (Called o None)
  stage_calm (Called o v) = or_calm (plain_method_of p tear_down_name (upwards p (test_at p s.test).class)) (judge p v s) (Obj o ∷ []) (Last v) (judge_calm v)
  stage_calm (Last v) = judge_calm v

  drive_calm : EndsIn CalmTurn (drive p s)
  unfolding drive
  drive_calm = stage_calm s.stage

-- ---- the step

then_calm : (p : Program) (s : State) (t : Access (Answer Entries)) → s.raised ≡ None → EndsIn CalmTurn (bind t (after_row p s))
then_calm p s t n = ends_bind CalmTurn Any t (after_row p s) (ends_any t) (λ a h. after_calm p s a (λ e. n))

raising_calm : (p : Program) (s : State) (t : Access (Answer Entries)) → EndsIn EntersNone t → EndsIn CalmTurn (bind t (after_row p s))
raising_calm p s t h = ends_bind CalmTurn EntersNone t (after_row p s) h (λ a n. after_calm p s a (λ e. absurd (n e)))

acts_calm : (p : Program) (s : State) → IsCalm s → (k : EntryKind) (x : Option Value) → s.entries.top.kind ≡ k → s.raised ≡ x → EndsIn CalmTurn (acts p k x s)
acts_calm p s calm Absent x e n = drive_calm p s (calm e)
acts_calm p s calm InMethod None e n = then_calm p s (row_here p s.entries) n
acts_calm p s calm InMethod (Some v) e n = raising_calm p s (row_raise p v s.entries) (raise_ends p v s.entries)
acts_calm p s calm (InClass b) None e n = then_calm p s (row_finish p s.entries) n
acts_calm p s calm (InClass b) (Some v) e n = raising_calm p s (row_fail p v s.entries) (fail_ends p v s.entries)

step_calm : (p : Program) (s : State) (w : World) → IsCalm s → CalmTurn (run (step p s) w).value
unfolding step
step_calm p s w calm = ends_run CalmTurn (acts p s.entries.top.kind s.raised s) w (acts_calm p s calm s.entries.top.kind s.raised refl refl)

pub reached_calm : (p : Program) (t : ℕ) (w v : World) (s : State) → Reaches p t w s v → IsCalm s
reached_calm p t w v s begins = λ e. refl
reached_calm p t w v s (steps {s = u} {v = x} r e) = subst CalmTurn e (step_calm p u x (reached_calm p t w x u r))
