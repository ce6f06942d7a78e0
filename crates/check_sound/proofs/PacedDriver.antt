-- The driver, a step that throws by itself and a built-in method touch at most four locations for each unit.
use Rattle.std.proofs.Common.{ℕ, suc, ◌+◌, ◌≤◌, List, [], ◌∷◌, Bool, true, false, cond, Option, Some, None, arith}
use Rattle.jvm_model.specs.declared.values.{Value.Value, InitState.InitState}
use Rattle.jvm_model.specs.declared.values.Value.TheVariants as value
use Rattle.jvm_model.specs.declared.values.InitState.TheVariants.{Idle, Running, Erroneous}
use Rattle.jvm_model.specs.declared.values.Location.TheVariants as place
use Rattle.jvm_model.specs.declared.{library.Native.Native, state.Stage.Stage, program.Program.Program, program.Body.Body}
use Rattle.jvm_model.specs.declared.outcome.Next.TheVariants.{Fault}
use Rattle.jvm_model.specs.declared.state.Stage.TheVariants.{First, Made, Built, SetUp, Called, Last}
use Rattle.jvm_model.specs.Access.{Access, done, read, write, bind}
use Rattle.jvm_model.specs.Builtin.{abstract_method_error, no_class_error, stack_overflow_error}
use Rattle.jvm_model.specs.Classes.{class_at, method_at, is_static, is_trivial, upwards, init_name}
use Rattle.jvm_model.specs.Driver.{set_up_name, tear_down_name, plain_method_in, plain_method_of, driven, drives, once_driven, makes, drive_first, drive_init, drive_method, drive_set_up, judged_message, judged_value, judge, drive_tear_down, drive_at, drive}
use Rattle.jvm_model.specs.{Entries.is_full, Entries.with_entry, Entries.class_entry, State.State, State.Turn, State.stuck_turn, State.test_at}
use Rattle.jvm_model.specs.{Kinds.class_of, Linked.Linked, Natives.native_group, Natives.row_native, Step.after_native, Throwing.throws, Working.Working}
use Rattle.jvm_model.specs.Rows.{Answer, answer, stuck_row, ready, begun, refused, begun_at, begin}
use Rattle.check_sound.specs.PaceLaw.{first_class}
use Rattle.check_sound.proofs.Paced.{Limits, Paced, paced_done, paced_read, paced_write, paced_make, paced_spend, IsLight, Pays, paced_bind}
use Rattle.check_sound.proofs.{Light.instance_cells, Light.light, PacedNatives.allowance, PacedNatives.native-paced}

-- a step, or a part of one, that ends with no more touches than four for each unit
abbrev pub PacedStep : Limits → ℕ → ℕ → Access Turn → Type 0
PacedStep M c d t = Paced M (λ c d a. d ≤ c) c d t

-- the state that the first step of the driver reads is allowed
abbrev pub StageAllowed : Program → Limits → Stage → State → Type 0
StageAllowed p M First s = M.states (first_class p s)
StageAllowed p M x s = Unit {0}

module _ (p : Program) (lk : Linked p) {M : Limits} where
  pub throws-paced : (c d e : ℕ) (s : State) → d ≤ c → IsLight p e → PacedStep M c d (throws p e s)
  unfolding throws
  throws-paced c d e s h l = paced_spend (paced_make (λ o. paced_done (let q = instance_cells p e in omega arith)))

  -- a built-in method, and how its step ends
  pub native-step-paced : (c d : ℕ) (x : Native) (w : Working) (s : State) → d + allowance (native_group x) ≤ c → PacedStep M c d (bind (row_native p x w) (after_native p s))
  native-step-paced c d x w s h = paced_bind M (λ c d a. Pays p c d a) (λ c d a. d ≤ c) (row_native p x w) (after_native p s) c d (native-paced p lk w d c x h) (λ c d a q. by c d a q)
    where
      by : (c d : ℕ) (a : Answer Working) → Pays p c d a → PacedStep M c d (after_native p s a)
      by c d stuck_row q = paced_done q
      by c d (answer (Fault e) t) q = throws-paced c d e (record s { entries = t.entries; own = t.own }) q.0 q.1
      by c d _ q = paced_done q.0

  -- ---- the driver

  driven-paced : (c d : ℕ) (o : Option Body) (m : ℕ) (args : List Value) (after : Stage) (s : State) → d ≤ c → PacedStep M c d (driven p o m args after s)
  driven-paced c d None m args after s h = throws-paced c d abstract_method_error (record s { stage = after }) h (light p lk abstract_method_error (omega arith))
  driven-paced c d (Some b) m args after s h = paced_spend (paced_done (omega arith))

  pub drives-paced : (c d m : ℕ) (args : List Value) (after : Stage) (s : State) → d ≤ c → PacedStep M c d (drives p m args after s)
  unfolding drives
  drives-paced c d m args after s h = driven-paced c d (method_at p m).body m args after s h

  pub makes-paced : (c d k : ℕ) (s : State) → d ≤ c → PacedStep M c d (makes p k s)
  makes-paced c d k s h = paced_spend (paced_make (λ o. paced_done (let q = instance_cells p k in omega arith)))

  used : (c d k : ℕ) (s : State) {t : Access Turn} → M.states k → d + 2 ≤ c → PacedStep M c d t → PacedStep M c (suc d) t → PacedStep M c d (bind (begin p k s.entries) (once_driven p s t))
  unfolding begin
  used c d k s {t = t} m h f g = either (is_trivial p k)
    where
      full : (b : Bool) → PacedStep M c (suc d) (bind (cond b (done (refused stack_overflow_error)) (write (place.Init k) Running (done (begun (with_entry (class_entry k) s.entries))))) (once_driven p s t))
      full true = throws-paced c (suc d) stack_overflow_error s (omega arith) (light p lk stack_overflow_error (omega arith))
      full false = paced_write m (paced_done (omega arith))

      looks : (x : InitState) → PacedStep M c (suc d) (bind (begun_at k s.entries x) (once_driven p s t))
      looks Idle = full (is_full s.entries)
      looks Erroneous = throws-paced c (suc d) no_class_error s (omega arith) (light p lk no_class_error (omega arith))
      looks _ = g

      either : (b : Bool) → PacedStep M c d (bind (cond b (done ready) (read (place.Init k) (begun_at k s.entries))) (once_driven p s t))
      either true = f
      either false = paced_read m (λ x. looks x)

  message-paced : (c d : ℕ) (o : List ℕ) (k : ℕ) (v : Value) → d + 1 ≤ c → PacedStep M c d (judged_message p o k v)
  message-paced c d o k (value.Lit n) h = paced_spend (paced_done (omega arith))
  message-paced c d o k (value.Obj x) h = paced_read tt (λ t. paced_spend (paced_done (omega arith)))
  message-paced c d o k _ h = paced_done (omega arith)

  value-paced : (c d : ℕ) (o : List ℕ) (v : Value) → d + 3 ≤ c → PacedStep M c d (judged_value p o v)
  value-paced c d o (value.Obj x) h = paced_read tt (λ z. paced_read tt (λ v. message-paced c (suc (suc d)) o (class_of z.kind) v (omega arith)))
  value-paced c d o _ h = paced_done (omega arith)

  judge-paced : (c d : ℕ) (v : Option Value) (s : State) → d + 3 ≤ c → PacedStep M c d (judge p v s)
  unfolding judge
  judge-paced c d None s h = paced_done (omega arith)
  judge-paced c d (Some v) s h = value-paced c d s.own.output v h

  first-paced : (c d : ℕ) (s : State) → M.states (first_class p s) → d + 3 ≤ c → PacedStep M c d (drive_first p s)
  unfolding drive_first
  first-paced c d s m h = by (is_static (method_at p (test_at p s.test).method).flags) m
    where
      by : (b : Bool) → M.states (cond b (method_at p (test_at p s.test).method).class (test_at p s.test).class) → PacedStep M c d (cond b (bind (begin p (method_at p (test_at p s.test).method).class s.entries) (once_driven p s (drives p (test_at p s.test).method [] (Last None) s))) (bind (begin p (test_at p s.test).class s.entries) (once_driven p s (makes p (test_at p s.test).class s))))
      by true m = used c d (method_at p (test_at p s.test).method).class s m (omega arith) (drives-paced c d (test_at p s.test).method [] (Last None) s (omega arith)) (drives-paced c (suc d) (test_at p s.test).method [] (Last None) s (omega arith))
      by false m = used c d (test_at p s.test).class s m (omega arith) (makes-paced c d (test_at p s.test).class s (omega arith)) (makes-paced c (suc d) (test_at p s.test).class s (omega arith))

  by_name : (c d : ℕ) (x : Option ℕ) {k : Access Turn} {f : ℕ → Access Turn} → PacedStep M c d k → ((m : ℕ) → PacedStep M c d (f m)) → PacedStep M c d (elim x [ None ↦ k | Some m ↦ f m ])
  by_name c d None g h = g
  by_name c d (Some m) g h = h m

  init-paced : (c d o : ℕ) (s : State) → d ≤ c → PacedStep M c d (drive_init p o s)
  unfolding drive_init
  init-paced c d o s h = by_name c d (plain_method_in p init_name (class_at p (test_at p s.test).class).methods) {k = done stuck_turn} {f = λ m. drives p m (value.Obj o ∷ []) (Built o) s} (paced_done h) (λ m. drives-paced c d m (value.Obj o ∷ []) (Built o) s h)

  method-paced : (c d o : ℕ) (s : State) → d ≤ c → PacedStep M c d (drive_method p o s)
  unfolding drive_method
  method-paced c d o s h = drives-paced c d (test_at p s.test).method (value.Obj o ∷ []) (Called o None) s h

  set_up-paced : (c d o : ℕ) (s : State) → d ≤ c → PacedStep M c d (drive_set_up p o s)
  unfolding drive_set_up
  set_up-paced c d o s h = by_name c d (plain_method_of p set_up_name (upwards p (test_at p s.test).class)) {k = drive_method p o s} {f = λ m. drives p m (value.Obj o ∷ []) (SetUp o) s} (method-paced c d o s h) (λ m. drives-paced c d m (value.Obj o ∷ []) (SetUp o) s h)

  tear_down-paced : (c d o : ℕ) (v : Option Value) (s : State) → d + 3 ≤ c → PacedStep M c d (drive_tear_down p o v s)
  unfolding drive_tear_down
  tear_down-paced c d o v s h = by_name c d (plain_method_of p tear_down_name (upwards p (test_at p s.test).class)) {k = judge p v s} {f = λ m. drives p m (value.Obj o ∷ []) (Last v) s} (judge-paced c d v s h) (λ m. drives-paced c d m (value.Obj o ∷ []) (Last v) s (omega arith))

  stage-paced : (c d : ℕ) (x : Stage) (s : State) → StageAllowed p M x s → d + 3 ≤ c → PacedStep M c d (drive_at p x s)
  stage-paced c d First s m h = first-paced c d s m h
  stage-paced c d (Made o) s m h = init-paced c d o s (omega arith)
  stage-paced c d (Built o) s m h = set_up-paced c d o s (omega arith)
  stage-paced c d (SetUp o) s m h = method-paced c d o s (omega arith)
  stage-paced c d (Called o v) s m h = tear_down-paced c d o v s h
  stage-paced c d (Last v) s m h = judge-paced c d v s h

  -- a step of the driver
  pub drive-paced : (c d : ℕ) (s : State) → StageAllowed p M s.stage s → d + 3 ≤ c → PacedStep M c d (drive p s)
  unfolding drive
  drive-paced c d s m h = stage-paced c d s.stage s m h
