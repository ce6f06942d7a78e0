-- Steps and whole tests in pairs: raising, initialisation, the driver.
use Rattle.std.proofs.Common.{◌≡◌, ℕ, zero, suc, ◌+◌, Bool, true, false, not, cond, List, [], length, refl, ap, subst, arith, Option, Some, None}
use Rattle.jvm_model.specs.declared.values.{Value.Value, InitState.InitState}
use Rattle.jvm_model.specs.declared.values.InitState.TheVariants.{Idle, Running, Done, Erroneous}
use Rattle.jvm_model.specs.declared.{instr.Instr.Instr, library.Native.Native, outcome.Own.Own, state.EntryKind.EntryKind}
use Rattle.jvm_model.specs.declared.state.{EntryKind.TheVariants.Absent, EntryKind.TheVariants.InMethod, EntryKind.TheVariants.InClass, Stage.Stage}
use Rattle.jvm_model.specs.{declared.program.Body.Body, Access.Access, Access.bind, Entries.Entries, Rows.Answer, Rows.Used, Working.Working}
use Rattle.std.specs.Str.{bytes_eq}
use Rattle.jvm_model.specs.{Raising.handled, Raising.row_raise, Classes.literal_at, Classes.is_static, Classes.is_trivial, Classes.init_name, Throwing.throws}
use Rattle.jvm_model.specs.Builtin.{error_class, initializer_error, no_class_error, stack_overflow_error, abstract_method_error, assertion_error}
use Rattle.jvm_model.specs.Suite.{End, after_step, whole, tree}
use Rattle.jvm_model.specs.Initialise.{Part, superclass_part, parts_of, with_entered, starts_body, starts, looked_at, looks, left_at, finished, finishing, row_finish, fails, fails_anew, was_entered, row_fail}
use Rattle.jvm_model.specs.State.{State, Turn, test_at, started, or_first, thrown_at, raised_in, raise, with_entries}
use Rattle.jvm_model.specs.Driver.{no_arguments, set_up_name, tear_down_name, plain_method_in, plain_method_of, driven, drives, once_driven, makes, drive_first, drive_init, drive_method, drive_set_up, judged, judged_text, judged_message, judged_value, judge, drive_tear_down, drive_at, drive}
use Rattle.jvm_model.specs.Step.{Group, moves, arith as arith_group, branches, statics as statics_group, fields, create, arrays, casts, calls, returns, throw, group_of, row_of, row, after_native, entered, after_row, row_or_none, row_here, acts, step}
use Rattle.order_law.specs.Pairing.{PairedList, no_more, one_more, PairedOption, both_none, both_some, PairedValue, ints, longs, nulls, literals, objects, inits, heads, at_field, texts, Paired, both_done, both_read, both_write, both_make, both_spend}
use Rattle.order_law.specs.{Numbers.Tested, Numbers.with_places, Forms.PairedInstr, Matched.PairedBody, Matched.PairedTest, Matched.MatchedStarts}
use Rattle.order_law.specs.Forms as same
use Rattle.order_law.specs.Outcomes.{both_passed, both_failed, both_error, PairedEnd, both_stuck, both_out, both_finished}
use Rattle.order_law.proofs.{Pairs.list-append, Twins.Twins, NativeRows.native-paired, NativeRows.W}
use Rattle.order_law.proofs.Lists.{both, length-paired, filter-paired, map-paired, cond-list}
use Rattle.order_law.proofs.Programs.{pick-option, interface-paired, trivial-paired, defaults-paired, below-paired, upwards-paired, layout-paired, blank-paired, instance-paired, class_of-paired, handler-paired, form_at-paired}
use Rattle.order_law.proofs.States.{PairedNext, go, fault, raised, leave, over, PairedAnswer, answered, entering, no_rows, PairedUsed, both_ready, both_begun, both_refused, PairedStage, both_first, both_made, both_built, both_set_up, both_called, both_last, PairedState, PairedTurn, both_next, both_ended, no_turns, full-paired, entry-paired, nothing-paired, popped-paired, class_entry-paired, frame-paired, cost-paired, frame_top, class_top}
use Rattle.order_law.proofs.Combinators.{V, E, Frames, Rows, bind-paired, choose-paired, spend-paired, stuck_row-paired, faults-paired, goes_to-paired, on_object-paired, begin-paired}
use Rattle.order_law.proofs.PlainRows.{moves-paired, arith-paired, branches-paired, return-paired, throw-paired}
use Rattle.order_law.proofs.ObjectRows.{statics-paired, fields-paired, create-paired, arrays-paired, casts-paired, calls_rows-paired}

module _ (tw : Twins) where
  abbrev C : ℕ → ℕ → Type 0
  C = Tested tw.numbers.class

  abbrev M : ℕ → ℕ → Type 0
  M = Tested tw.numbers.method

  abbrev Values : Option Value → Option Value → Type 0
  Values = PairedOption (PairedValue (with_places tw.numbers tw.place))

  abbrev pub States : State → State → Type 0
  States = PairedState tw.numbers tw.place tw.left tw.right

  abbrev pub Turns : Access Turn → Access Turn → Type 0
  Turns a b = Paired (with_places tw.numbers tw.place) (PairedTurn tw.numbers tw.place tw.left tw.right) a b

  -- raising
  pub handled-paired : {v w : Value} {s t : Entries} {x y : Option ℕ} → V tw v w → Frames tw s t → PairedOption (λ (a : ℕ) (b : ℕ). a ≡ b) x y → Rows tw (handled v s x) (handled w t y)
  handled-paired r f both_none = both_done (answered (raised r) (popped-paired tw.numbers tw.place f.entries))
  handled-paired r f (both_some e) = goes_to-paired tw e f (one_more r no_more)

  pub raise_row-paired : {v w : Value} {s t : Entries} → V tw v w → Frames tw s t → Rows tw (row_raise tw.left v s) (row_raise tw.right w t)
  unfolding row_raise
  raise_row-paired r f = on_object-paired tw _ _ f.entries r (λ a b x. both_read (heads x) (λ h k e. handled-paired r f
      (handler-paired tw.numbers tw.left tw.right tw.matched _ _ _ _ _ _ f.method f.entries.top.pc (class_of-paired tw.numbers tw.left tw.right tw.matched e.kind))))

  -- initialisation
  pub record PairedPart (x y : Part) : Type 0 where
    pub class : tw.numbers.class x.class y.class ≡ true
    pub price : x.price ≡ y.price

  pub superclass-parts : {x y : Option ℕ} → PairedOption C x y → PairedList PairedPart (superclass_part x) (superclass_part y)
  superclass-parts both_none = no_more
  superclass-parts (both_some e) = one_more (record { class = e; price = refl }) no_more

  pub entered_class-paired : {s t : Entries} {b : Bool} → E tw s t → s.top.kind ≡ InClass b → E tw (with_entered s) (with_entered t)
  entered_class-paired r e = record { top = record { kind = refl; number = class_top tw.numbers tw.place r e; pc = r.top.pc; stack = r.top.stack; locals = r.top.locals }; below = r.below }

  pub starts_body-paired : {x y : Option Body} (a b : ℕ) (i j : ℕ) {s t : Entries} {k : Bool} → PairedOption (PairedBody tw.numbers) x y → M a b → i ≡ j → E tw s t → s.top.kind ≡ InClass k →
      Rows tw (starts_body x a i s) (starts_body y b j t)
  starts_body-paired a b i j both_none e g r h = stuck_row-paired tw
  starts_body-paired a b i j (both_some {x} {y} o) e g r h = choose-paired tw _ _ (full-paired tw.numbers tw.place r)
      (spend-paired tw g (faults-paired tw (tw.matched.builtin stack_overflow_error (omega arith)) r))
      (spend-paired tw (rw (g, cost-paired tw.numbers tw.place o) refl) (both_done (answered go (entry-paired tw.numbers tw.place (frame-paired tw.numbers tw.place o e no_more) (entered_class-paired r h)))))

  pub starts-paired : {x y : Option ℕ} (i j : ℕ) {s t : Entries} {k : Bool} → PairedOption M x y → i ≡ j → E tw s t → s.top.kind ≡ InClass k → Rows tw (starts tw.left x i s) (starts tw.right y j t)
  starts-paired i j both_none g r h = spend-paired tw g (both_done (answered go (entered_class-paired r h)))
  starts-paired i j (both_some {x} {y} e) g r h = starts_body-paired x y i j (tw.matched.methods x y e).body e g r h

  pub looked-paired : (c d : ℕ) (i j : ℕ) {s t : Entries} {a b : Access (Answer Entries)} (x : InitState) → C c d → i ≡ j → E tw s t → Rows tw a b → Rows tw (looked_at c i s a x) (looked_at d j t b x)
  looked-paired c d i j Idle e g r f = choose-paired tw _ _ (full-paired tw.numbers tw.place r)
      (spend-paired tw g (faults-paired tw (tw.matched.builtin stack_overflow_error (omega arith)) r))
      (spend-paired tw g (both_write (inits e) refl (both_done (answered go (entry-paired tw.numbers tw.place (class_entry-paired tw.numbers tw.place c d e) r)))))
  looked-paired c d i j Erroneous e g r f = spend-paired tw g (faults-paired tw (tw.matched.builtin no_class_error (omega arith)) r)
  looked-paired c d i j _ e g r f = f

  pub left-paired : (k : EntryKind) → PairedNext tw.numbers tw.place (left_at k) (left_at k)
  left-paired Absent = leave
  left-paired _ = go

  pub left_alike : {k l : EntryKind} → k ≡ l → PairedNext tw.numbers tw.place (left_at k) (left_at l)
  left_alike {k} e = subst (λ (z : EntryKind). PairedNext tw.numbers tw.place (left_at k) (left_at z)) e (left-paired k)

  pub finished-paired : {s t : Entries} {b : Bool} → E tw s t → s.top.kind ≡ InClass b → Rows tw (finished s) (finished t)
  finished-paired r h = let o = popped-paired tw.numbers tw.place r in both_write (inits (class_top tw.numbers tw.place r h)) refl (both_done (answered (left_alike o.top.kind) o))

  pub fails-paired : {v w : Value} {s t : Entries} {b : Bool} → V tw v w → E tw s t → s.top.kind ≡ InClass b → Rows tw (fails v s) (fails w t)
  fails-paired u r h = both_write (inits (class_top tw.numbers tw.place r h)) refl (both_done (answered (raised u) (popped-paired tw.numbers tw.place r)))

  pub fails_anew-paired : {s t : Entries} {b : Bool} → E tw s t → s.top.kind ≡ InClass b → Rows tw (fails_anew tw.left s) (fails_anew tw.right t)
  fails_anew-paired r h = both_spend 2 (both_write (inits (class_top tw.numbers tw.place r h)) refl
      (both_make (blank-paired tw.numbers tw.left tw.right tw.matched tw.place (instance-paired tw.numbers tw.left tw.right tw.matched initializer_error initializer_error (tw.matched.builtin initializer_error (omega arith))))
      (λ a b x. both_done (answered (raised (objects x)) (popped-paired tw.numbers tw.place r)))))

  pub fail-paired : {v w : Value} {s t : Entries} {b : Bool} → V tw v w → E tw s t → s.top.kind ≡ InClass b → Rows tw (row_fail tw.left v s) (row_fail tw.right w t)
  unfolding row_fail
  fail-paired u r h = on_object-paired tw _ _ r u (λ a c x. both_read (heads x) (λ k l e. choose-paired tw _ _
      (both _ _ _ _ (ap was_entered r.top.kind) (ap not (below-paired tw.numbers tw.left tw.right tw.matched _ _ error_class error_class (class_of-paired tw.numbers tw.left tw.right tw.matched e.kind) (tw.matched.builtin error_class (omega arith)))))
      (fails_anew-paired r h) (fails-paired u r h)))

  -- a throwable is raised
  pub or_first-paired : {x y : Option Value} {v w : Value} → Values x y → V tw v w → Values (or_first x v) (or_first y w)
  or_first-paired both_none r = both_some r
  or_first-paired (both_some u) r = both_some u

  pub thrown-paired : {x y : Stage} {v w : Value} → PairedStage tw.numbers tw.place x y → V tw v w → PairedStage tw.numbers tw.place (thrown_at x v) (thrown_at y w)
  thrown-paired both_first r = both_last (both_some r)
  thrown-paired (both_made e) r = both_last (both_some r)
  thrown-paired (both_built e) r = both_last (both_some r)
  thrown-paired (both_set_up e) r = both_last (both_some r)
  thrown-paired (both_called e u) r = both_called e (or_first-paired u r)
  thrown-paired (both_last u) r = both_last (or_first-paired u r)

  pub raised_in-paired : (k : EntryKind) {v w : Value} {s t : State} → V tw v w → States s t → States (raised_in k v s) (raised_in k w t)
  raised_in-paired Absent r o = record { test = o.test; entries = o.entries; stage = thrown-paired o.stage r; raised = both_none; own = o.own }
  raised_in-paired _ r o = record { test = o.test; entries = o.entries; stage = o.stage; raised = both_some r; own = o.own }

  pub raise-paired : {v w : Value} {s t : State} → V tw v w → States s t → States (raise v s) (raise w t)
  raise-paired {v} {w} {s} {t} r o = subst (λ (z : EntryKind). States (raise v s) (raised_in z w t)) o.entries.top.kind (raised_in-paired s.entries.top.kind r o)

  pub throws-paired : {c d : ℕ} {s t : State} → C c d → States s t → Turns (throws tw.left c s) (throws tw.right d t)
  unfolding throws
  throws-paired {c} {d} e o = both_spend 2 (both_make (blank-paired tw.numbers tw.left tw.right tw.matched tw.place (instance-paired tw.numbers tw.left tw.right tw.matched c d e)) (λ a b x. both_done (both_next (raise-paired (objects x) o))))

  pub entries-paired : {s t : State} {x y : Entries} → States s t → E tw x y → States (with_entries s x) (with_entries t y)
  entries-paired o r = record { test = o.test; entries = r; stage = o.stage; raised = both_none; own = o.own }

  pub stage-paired : {s t : State} {x y : Stage} → States s t → PairedStage tw.numbers tw.place x y → States (record s { stage = x }) (record t { stage = y })
  stage-paired o r = record { test = o.test; entries = o.entries; stage = r; raised = o.raised; own = o.own }

  -- the driver
  pub plain_in-paired : (name : List ℕ) {xs ys : List ℕ} → PairedList M xs ys → PairedOption M (plain_method_in tw.left name xs) (plain_method_in tw.right name ys)
  plain_in-paired name no_more = both_none
  plain_in-paired name (one_more {x} {y} e r) = let m = tw.matched.methods x y e in
      pick-option _ _ (both _ _ _ _ (ap (λ (z : ℕ). not (is_static z)) m.flags) (both _ _ _ _ (ap (λ (z : List ℕ). bytes_eq z name) m.name) (ap (λ (z : List ℕ). bytes_eq z no_arguments) m.descriptor)))
      (both_some e) (plain_in-paired name r)

  pub or_plain : {x y u v : Option ℕ} → PairedOption M x y → PairedOption M u v → PairedOption M (elim x [ Some m ↦ Some m | None ↦ u ]) (elim y [ Some m ↦ Some m | None ↦ v ])
  or_plain both_none r = r
  or_plain (both_some e) r = both_some e

  pub plain_of-paired : (name : List ℕ) {xs ys : List ℕ} → PairedList C xs ys → PairedOption M (plain_method_of tw.left name xs) (plain_method_of tw.right name ys)
  plain_of-paired name no_more = both_none
  plain_of-paired name (one_more {x} {y} e r) = or_plain (plain_in-paired name (tw.matched.classes x y e).methods) (plain_of-paired name r)

  pub driven-paired : {x y : Option Body} (a b : ℕ) {vs ws : List Value} {u v : Stage} {s t : State} → PairedOption (PairedBody tw.numbers) x y → M a b → PairedList (V tw) vs ws → PairedStage tw.numbers tw.place u v → States s t →
      Turns (driven tw.left x a vs u s) (driven tw.right y b ws v t)
  driven-paired a b both_none e rs k o = throws-paired (tw.matched.builtin abstract_method_error (omega arith)) (stage-paired o k)
  driven-paired a b (both_some g) e rs k o = spend-paired tw (cost-paired tw.numbers tw.place g) (both_done (both_next (record {
    test = o.test;
    entries = entry-paired tw.numbers tw.place (frame-paired tw.numbers tw.place g e rs) o.entries;
    stage = k;
    raised = o.raised;
    own = o.own;
  })))

  pub drives-paired : (a b : ℕ) {vs ws : List Value} {u v : Stage} {s t : State} → M a b → PairedList (V tw) vs ws → PairedStage tw.numbers tw.place u v → States s t → Turns (drives tw.left a vs u s) (drives tw.right b ws v t)
  unfolding drives
  drives-paired a b e rs k o = driven-paired a b (tw.matched.methods a b e).body e rs k o

  pub once_driven-paired : {s t : State} {k l : Access Turn} {x y : Used} → States s t → Turns k l → PairedUsed tw.numbers tw.place x y → Turns (once_driven tw.left s k x) (once_driven tw.right t l y)
  once_driven-paired o f both_ready = f
  once_driven-paired o f (both_begun r) = both_done (both_next (entries-paired o r))
  once_driven-paired o f (both_refused e) = throws-paired e o

  pub makes-paired : (c d : ℕ) {s t : State} → C c d → States s t → Turns (makes tw.left c s) (makes tw.right d t)
  makes-paired c d e o = spend-paired tw (ap (λ (k : ℕ). 1 + k) (length-paired (Tested tw.numbers.fields) (layout-paired tw.numbers tw.left tw.right tw.matched c d e)))
      (both_make (blank-paired tw.numbers tw.left tw.right tw.matched tw.place (instance-paired tw.numbers tw.left tw.right tw.matched c d e)) (λ a b x. both_done (both_next (stage-paired o (both_made x)))))

  pub or_turn : {x y : Option ℕ} {a b : Access Turn} {k l : ℕ → Access Turn} → PairedOption M x y → Turns a b → ((m m' : ℕ) → M m m' → Turns (k m) (l m')) →
      Turns (elim x [ None ↦ a | Some m ↦ k m ]) (elim y [ None ↦ b | Some m ↦ l m ])
  or_turn both_none f g = f
  or_turn (both_some {x} {y} e) f g = g x y e

  pub init-paired : {a b : ℕ} {s t : State} → tw.place a b → States s t → Turns (drive_init tw.left a s) (drive_init tw.right b t)
  unfolding drive_init
  init-paired x o = or_turn (plain_in-paired init_name (tw.matched.classes _ _ o.test.class).methods) (both_done no_turns) (λ m m' e. drives-paired m m' e (one_more (objects x) no_more) (both_built x) o)

  pub method-paired : {a b : ℕ} {s t : State} → tw.place a b → States s t → Turns (drive_method tw.left a s) (drive_method tw.right b t)
  unfolding drive_method
  method-paired x o = drives-paired _ _ o.test.method (one_more (objects x) no_more) (both_called x both_none) o

  pub set_up-paired : {a b : ℕ} {s t : State} → tw.place a b → States s t → Turns (drive_set_up tw.left a s) (drive_set_up tw.right b t)
  unfolding drive_set_up
  set_up-paired x o = or_turn (plain_of-paired set_up_name (upwards-paired tw.numbers tw.left tw.right tw.matched _ _ o.test.class)) (method-paired x o) (λ m m' e. drives-paired m m' e (one_more (objects x) no_more) (both_set_up x) o)

  pub judged-paired : (out : List ℕ) (c d : ℕ) (text : Option (List ℕ)) → C c d → PairedTurn tw.numbers tw.place tw.left tw.right (judged tw.left out c text) (judged tw.right out d text)
  judged-paired out c d text e = pick-turn _ _ (below-paired tw.numbers tw.left tw.right tw.matched c d assertion_error assertion_error e (tw.matched.builtin assertion_error (omega arith)))
      (both_ended (both_failed (record { class = e; message = refl })) refl) (both_ended (both_error (record { class = e; message = refl })) refl)
    where
      pick-turn : (b b' : Bool) {x y u v : Turn} → b ≡ b' → PairedTurn tw.numbers tw.place tw.left tw.right x y → PairedTurn tw.numbers tw.place tw.left tw.right u v →
          PairedTurn tw.numbers tw.place tw.left tw.right (cond b x u) (cond b' y v)
      pick-turn true true e r s = r
      pick-turn false false e r s = s
      pick-turn _ _ e r s = absurd (cc)

  pub judged_text-paired : (out : List ℕ) (c d : ℕ) (x y : List ℕ) → C c d → x ≡ y → Turns (judged_text tw.left out c x) (judged_text tw.right out d y)
  judged_text-paired out c d x y e g = subst (λ (z : List ℕ). Turns (judged_text tw.left out c x) (judged_text tw.right out d z)) g (both_spend (length x) (both_done (judged-paired out c d (Some x) e)))

  pub judged_message-paired : (out : List ℕ) (c d : ℕ) {v w : Value} → C c d → V tw v w → Turns (judged_message tw.left out c v) (judged_message tw.right out d w)
  judged_message-paired out c d e (ints i) = both_done no_turns
  judged_message-paired out c d e (longs i) = both_done no_turns
  judged_message-paired out c d e nulls = both_done (judged-paired out c d None e)
  judged_message-paired out c d e (literals {n = a} {k = b} g) = judged_text-paired out c d (literal_at tw.left a) (literal_at tw.right b) e (tw.matched.texts a b g)
  judged_message-paired out c d e (objects x) = both_read (texts x) (λ y z g. judged_text-paired out c d y z e g)

  pub judged_value-paired : (out : List ℕ) {v w : Value} → V tw v w → Turns (judged_value tw.left out v) (judged_value tw.right out w)
  judged_value-paired out (ints i) = both_done no_turns
  judged_value-paired out (longs i) = both_done no_turns
  judged_value-paired out nulls = both_done no_turns
  judged_value-paired out (literals e) = both_done no_turns
  judged_value-paired out (objects x) = both_read (heads x) (λ h k e. both_read (at_field x tw.matched.message) (λ v w r. judged_message-paired out _ _ (class_of-paired tw.numbers tw.left tw.right tw.matched e.kind) r))

  pub judge-paired : {x y : Option Value} {s t : State} → Values x y → States s t → Turns (judge tw.left x s) (judge tw.right y t)
  unfolding judge
  judge-paired both_none o = both_done (both_ended both_passed (ap (λ (z : Own). z.output) o.own))
  judge-paired {s = s} {t = t} (both_some {x} {y} r) o = subst (λ (z : Own). Turns (judged_value tw.left s.own.output x) (judged_value tw.right z.output y)) o.own (judged_value-paired s.own.output r)

  pub tear_down-paired : {a b : ℕ} {x y : Option Value} {s t : State} → tw.place a b → Values x y → States s t → Turns (drive_tear_down tw.left a x s) (drive_tear_down tw.right b y t)
  unfolding drive_tear_down
  tear_down-paired x r o = or_turn (plain_of-paired tear_down_name (upwards-paired tw.numbers tw.left tw.right tw.matched _ _ o.test.class)) (judge-paired r o) (λ m m' e. drives-paired m m' e (one_more (objects x) no_more) (both_last r) o)

  -- the row of an instruction
  pub same_group : {i j : Instr} → PairedInstr tw.numbers i j → group_of i ≡ group_of j
  same_group same.nop = refl
  same_group _ = refl

  -- what comes after the row of an instruction
  pub after_native-paired : {s t : State} {x y : Answer Working} → States s t → PairedAnswer tw.numbers tw.place (W tw) (W tw) x y → Turns (after_native tw.left s x) (after_native tw.right t y)
  after_native-paired o no_rows = both_done no_turns
  after_native-paired o (answered go w) = both_done (both_next (record { test = o.test; entries = w.entries.entries; stage = o.stage; raised = o.raised; own = w.own }))
  after_native-paired o (answered (fault e) w) = throws-paired e (record { test = o.test; entries = w.entries.entries; stage = o.stage; raised = o.raised; own = w.own })
  after_native-paired o (answered (raised r) w) = both_done no_turns
  after_native-paired o (entering e w) = both_done no_turns
  after_native-paired o (answered leave w) = both_done no_turns
  after_native-paired o (answered over w) = both_done no_turns

  pub native_or_frame : (x : Option Native) {s t : State} {u v : Entries} → States s t → Frames tw u v → Turns (entered tw.left s x u) (entered tw.right t x v)
  native_or_frame None o f = both_done (both_next (entries-paired o f.entries))
  native_or_frame (Some x) o f = bind-paired tw (native-paired tw x (record { entries = f; own = o.own })) (λ y z r. after_native-paired o r)

  pub entered-paired : {x y : Option Native} {s t : State} {u v : Entries} → x ≡ y → States s t → Frames tw u v → Turns (entered tw.left s x u) (entered tw.right t y v)
  entered-paired {x} {y} {s} {t} {u} {v} e o f = subst (λ (z : Option Native). Turns (entered tw.left s x u) (entered tw.right t z v)) e (native_or_frame x o f)

  pub after_row-paired : {s t : State} {x y : Answer Entries} → States s t → PairedAnswer tw.numbers tw.place (E tw) (Frames tw) x y → Turns (after_row tw.left s x) (after_row tw.right t y)
  after_row-paired o no_rows = both_done no_turns
  after_row-paired o (answered go r) = both_done (both_next (entries-paired o r))
  after_row-paired o (answered (fault e) r) = throws-paired e (entries-paired o r)
  after_row-paired o (answered (raised v) r) = both_done (both_next (raise-paired v (entries-paired o r)))
  after_row-paired o (entering {a} {b} e f) = entered-paired (tw.matched.methods a b e).native o f
  after_row-paired o (answered leave r) = both_done (both_next (entries-paired o r))
  after_row-paired o (answered over r) = both_done no_turns

  pub then_after : {s t : State} {a b : Access (Answer Entries)} → States s t → Rows tw a b → Turns (bind a (after_row tw.left s)) (bind b (after_row tw.right t))
  then_after o f = bind-paired tw f (λ x y r. after_row-paired o r)

  -- the steps of programs whose classes start alike
  module _ (st : MatchedStarts tw.numbers tw.left tw.right) where
    pub parts-paired : (c d : ℕ) → C c d → PairedList PairedPart (parts_of tw.left c) (parts_of tw.right d)
    unfolding parts_of
    parts-paired c d e = cond-list PairedPart _ _ (interface-paired tw.numbers tw.left tw.right tw.matched c d e) no_more
        (filter-paired PairedPart (λ x. not (is_trivial tw.left x.class)) (λ x. not (is_trivial tw.right x.class)) (λ x y r. ap not (trivial-paired tw.numbers tw.left tw.right tw.matched st x.class y.class r.class))
        (list-append (superclass-parts (tw.matched.classes c d e).superclass)
        (map-paired C PairedPart (λ i. record { class = i; price = 1 }) (λ i. record { class = i; price = 1 }) (λ x y r. record { class = r; price = refl }) (defaults-paired tw.numbers tw.left tw.right tw.matched c d e))))

    pub looks-paired : {xs ys : List Part} (i j : ℕ) {s t : Entries} {k : Bool} → PairedList PairedPart xs ys → i ≡ j → E tw s t → s.top.kind ≡ InClass k → Rows tw (looks tw.left xs i s) (looks tw.right ys j t)
    looks-paired i j no_more g r h = starts-paired i j (st.initialisers _ _ (class_top tw.numbers tw.place r h)) g r h
    looks-paired i j {s} {t} (one_more {x} {y} {xs} {ys} o os) g r h = let price : i + x.price ≡ j + y.price = rw (g, o.price) refl in
        both_read (inits o.class) (λ c d e. subst (λ (z : InitState). Rows tw (looked_at x.class (i + x.price) s (looks tw.left xs (i + x.price) s) c) (looked_at y.class (j + y.price) t (looks tw.right ys (j + y.price) t) z)) e
        (looked-paired x.class y.class (i + x.price) (j + y.price) c o.class price r (looks-paired (i + x.price) (j + y.price) os price r h)))

    pub finishing-paired : (k : EntryKind) {s t : Entries} → s.top.kind ≡ k → E tw s t → Rows tw (finishing k tw.left s) (finishing k tw.right t)
    finishing-paired (InClass false) h r = looks-paired 0 0 (parts-paired _ _ (class_top tw.numbers tw.place r h)) refl r h
    finishing-paired (InClass true) h r = finished-paired r h
    finishing-paired _ h r = stuck_row-paired tw

    pub finish-paired : {s t : Entries} → E tw s t → Rows tw (row_finish tw.left s) (row_finish tw.right t)
    unfolding row_finish
    finish-paired {s} {t} r = subst (λ (z : EntryKind). Rows tw (finishing s.top.kind tw.left s) (finishing z tw.right t)) r.top.kind (finishing-paired s.top.kind refl r)

    pub first-paired : {s t : State} → States s t → Turns (drive_first tw.left s) (drive_first tw.right t)
    unfolding drive_first
    first-paired o = let m = tw.matched.methods _ _ o.test.method in choose-paired tw _ _ (ap is_static m.flags)
        (bind-paired tw (begin-paired tw st _ _ m.class o.entries) (λ x y u. once_driven-paired o (drives-paired _ _ o.test.method no_more (both_last both_none) o) u))
        (bind-paired tw (begin-paired tw st _ _ o.test.class o.entries) (λ x y u. once_driven-paired o (makes-paired _ _ o.test.class o) u))

    pub drive_at-paired : {u v : Stage} {s t : State} → PairedStage tw.numbers tw.place u v → States s t → Turns (drive_at tw.left u s) (drive_at tw.right v t)
    drive_at-paired both_first o = first-paired o
    drive_at-paired (both_made x) o = init-paired x o
    drive_at-paired (both_built x) o = set_up-paired x o
    drive_at-paired (both_set_up x) o = method-paired x o
    drive_at-paired (both_called x r) o = tear_down-paired x r o
    drive_at-paired (both_last r) o = judge-paired r o

    pub drive-paired : {s t : State} → States s t → Turns (drive tw.left s) (drive tw.right t)
    unfolding drive
    drive-paired o = drive_at-paired o.stage o

    pub row_of-paired : (g : Group) {i j : Instr} {s t : Entries} → PairedInstr tw.numbers i j → Frames tw s t → Rows tw (row_of g tw.left i s) (row_of g tw.right j t)
    row_of-paired moves e f = moves-paired tw e f
    row_of-paired arith_group e f = arith-paired tw e f
    row_of-paired branches e f = branches-paired tw e f
    row_of-paired statics_group e f = statics-paired tw st e f
    row_of-paired fields e f = fields-paired tw e f
    row_of-paired create e f = create-paired tw st e f
    row_of-paired arrays e f = arrays-paired tw e f
    row_of-paired casts e f = casts-paired tw e f
    row_of-paired calls e f = calls_rows-paired tw st e f
    row_of-paired returns e f = return-paired tw e f
    row_of-paired throw e f = throw-paired tw f

    pub row-paired : {i j : Instr} {s t : Entries} → PairedInstr tw.numbers i j → Frames tw s t → Rows tw (row tw.left i s) (row tw.right j t)
    unfolding row
    row-paired {i} {j} {s} {t} e f = subst (λ (g : Group). Rows tw (row_of (group_of i) tw.left i s) (row_of g tw.right j t)) (same_group e) (row_of-paired (group_of i) e f)

    pub or_none : {x y : Option Instr} {s t : Entries} → PairedOption (PairedInstr tw.numbers) x y → Frames tw s t → Rows tw (row_or_none tw.left x s) (row_or_none tw.right y t)
    or_none both_none f = stuck_row-paired tw
    or_none (both_some e) f = row-paired e f

    pub here-paired : {s t : Entries} → Frames tw s t → Rows tw (row_here tw.left s) (row_here tw.right t)
    unfolding row_here
    here-paired f = or_none (form_at-paired tw.numbers tw.left tw.right tw.matched _ _ _ _ f.method f.entries.top.pc) f

    -- the step
    pub acts-paired : (k : EntryKind) {x y : Option Value} {s t : State} → s.entries.top.kind ≡ k → Values x y → States s t → Turns (acts tw.left k x s) (acts tw.right k y t)
    acts-paired Absent h r o = drive-paired o
    acts-paired InMethod h both_none o = then_after o (here-paired (frame_top tw.numbers tw.place o.entries h))
    acts-paired InMethod h (both_some v) o = then_after o (raise_row-paired v (frame_top tw.numbers tw.place o.entries h))
    acts-paired (InClass b) h both_none o = then_after o (finish-paired o.entries)
    acts-paired (InClass b) h (both_some v) o = then_after o (fail-paired v o.entries h)

    pub step-paired : {s t : State} → States s t → Turns (step tw.left s) (step tw.right t)
    unfolding step
    step-paired {s} {t} o = both_spend 1 (subst (λ (k : EntryKind). Turns (acts tw.left s.entries.top.kind s.raised s) (acts tw.right k t.raised t)) o.entries.top.kind (acts-paired s.entries.top.kind refl o.raised o))

    -- whole tests
    abbrev pub Ends : Access End → Access End → Type 0
    Ends a b = Paired (with_places tw.numbers tw.place) (PairedEnd tw.numbers) a b

    pub after_step-paired : (k : ℕ) {x y : Turn} → PairedTurn tw.numbers tw.place tw.left tw.right x y → ((s t : State) → States s t → Ends (whole tw.left k s) (whole tw.right k t)) →
        Ends (after_step (λ s. whole tw.left k s) x) (after_step (λ s. whole tw.right k s) y)
    after_step-paired k (both_next o) f = f _ _ o
    after_step-paired k (both_ended v e) f = both_done (both_finished v e)
    after_step-paired k no_turns f = both_done both_stuck

    pub whole-paired : (k : ℕ) (s t : State) → States s t → Ends (whole tw.left k s) (whole tw.right k t)
    whole-paired zero s t o = both_done both_out
    whole-paired (suc k) s t o = bind-paired tw (step-paired o) (λ x y r. after_step-paired k r (whole-paired k))

    pub started-paired : (t u : ℕ) → PairedTest tw.numbers (test_at tw.left t) (test_at tw.right u) → States (started tw.left t) (started tw.right u)
    started-paired t u r = record {
      test = r;
      entries = nothing-paired tw.numbers tw.place;
      stage = both_first;
      raised = both_none;
      own = λ i. record { output = []; clock = r.clock i; random = r.seed i };
    }

    pub tree-paired : (t u b : ℕ) → PairedTest tw.numbers (test_at tw.left t) (test_at tw.right u) → Ends (tree tw.left t b) (tree tw.right u b)
    unfolding tree
    tree-paired t u b r = whole-paired (suc b) (started tw.left t) (started tw.right u) (started-paired t u r)
