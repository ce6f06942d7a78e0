-- Steps of the driver: a class is used, the test's object is made, a method is called, and the test is judged.
use Rattle.std.proofs.Common.{◌≡◌, ℕ, ◌-◌, ◌<◌, List, [], ◌∷◌, ◌++◌, length, Bool, true, false, not, ◌&&◌, cond, nat_eq, Option, Some, None, IfSome, IsSome, refl, sym, ◌∙◌, ap, subst, arith}
use Rattle.std.specs.Prelude.{flat_map}
use Rattle.std.specs.{List.IsDistinct, Str.bytes_eq}
use Rattle.std.proofs.lemmas.{Bool.or_left, Bool.or_right, Bool.eq-eqb, Option.same_Some}
use Rattle.jvm_model.specs.declared.values.{Value.Value, Kind.Kind, Head.Head, InitState.InitState}
use Rattle.jvm_model.specs.declared.values.Value.TheVariants as value
use Rattle.jvm_model.specs.declared.values.InitState.TheVariants.{Idle, Running, Erroneous}
use Rattle.jvm_model.specs.declared.values.Location.TheVariants as place
use Rattle.jvm_model.specs.declared.state.{EntryKind.EntryKind, EntryKind.TheVariants.Absent, EntryKind.TheVariants.InMethod, EntryKind.TheVariants.InClass}
use Rattle.jvm_model.specs.declared.{state.Stage.Stage, outcome.Verdict.Verdict, program.Program.Program, program.TestEntry.TestEntry, program.Body.Body}
use Rattle.jvm_model.specs.declared.state.Stage.TheVariants.{First, Made, Built, SetUp, Called, Last}
use Rattle.jvm_model.specs.{World.World, World.put, World.make_object, Linked.IsClass, Linked.IsMethod, Linked.IsKind, Linked.IsTest}
use Rattle.jvm_model.specs.Access.{Access, done, read, write, bind}
use Rattle.jvm_model.specs.Builtin.{throwable_class, message_field, assertion_error, stack_overflow_error, no_class_error, abstract_method_error}
use Rattle.jvm_model.specs.Classes.{class_at, method_at, is_static, is_below, is_trivial, init_name, upwards, member, blank, instance_head, literal_at}
use Rattle.jvm_model.specs.{Descriptors.parameters, Kinds.class_of, Lookup.is_method}
use Rattle.jvm_model.specs.Driver.{no_arguments, set_up_name, tear_down_name, plain_method_in, plain_method_of, driven, drives, once_driven, makes, drive_first, drive_init, drive_method, drive_set_up, drive_tear_down, judged, judged_message, judge, drive_at, drive}
use Rattle.jvm_model.specs.Entries.{Entry, all_entries, is_full, class_entry, with_entry, frame_of}
use Rattle.jvm_model.specs.Rows.{ready, begun, refused, begun_at, begin}
use Rattle.jvm_model.specs.State.{State, Turn, ended, stuck_turn, no_test, test_at}
use Rattle.jvm_model.proofs.{Locations.at_put_same, Locations.size_make, Upwards.below_same, Interfaces.member_first}
use Rattle.type_frames.specs.declared.vtype.{VType.VType, VType.TheVariants.UninitThis, VType.TheVariants.Object}
use Rattle.type_frames.specs.{Frames.spread, Descriptors.types_of, Descriptors.name_of, Given.is_constructor, Typing.IsTyped}
use Rattle.type_frames.specs.TypedState.{kind_at, IsInstance, is_class_with, RefersTo, HaveTypes, Goes, IsTop, IsBelow, AllBelow, IsThrowable, IsOfClass, HasObject, HasStage}
use Rattle.et_base.proofs.Texts.{units_true}
use Rattle.check_sound.proofs.Tree.{IsSpot, typed_done, typed_read, typed_mark, typed_make, typed_spend, Over}
use Rattle.check_sound.proofs.{Grow.Ranged, Grow.throwable_over, RaiseRows.throwable_instance, Blank.blank_new, Instances.below_is}
use Rattle.check_sound.proofs.{Ready.TypedEntries, Ready.Rest, Ready.closed, Onward.grows_make, Onward.grows_begin, Onward.entries_grow}
use Rattle.check_sound.proofs.{Thrown.thrown, Arguments.EntersWith, Arguments.entered_frame}
use Rattle.check_sound.proofs.Ends.{Local, TurnsTo, Step, tested, throws-typed, new_kind, stage_over}
use Rattle.check_sound.proofs.{CallRows.this_type, CallRows.this_is, SelectLaws.found, SelectLaws.declares, SelectLaws.of_classes}
use Rattle.check_sound.proofs.LibraryTypes.{string_name, message_spot, message_got}

-- ---- no entry stands

none_below : (p : Program) (w : World) (a : Entry) → a.kind ≡ Absent → (fs : List Entry) → AllBelow p w a fs → fs ≡ []
none_below p w a q [] h = refl
none_below p w a q (f ∷ fs) h = absurd (by f.kind (subst (λ (j : EntryKind). IsBelow p w f f.kind a j) q h.0))
  where
    by : (i : EntryKind) → IsBelow p w f i a Absent → ⊥
    by (InClass false) h = h.1
    by (InClass true) h = h.1
    by _ h = h

empty_rest : (p : Program) (w : World) (n : ℕ) → Rest p w InMethod n []
unfolding IsDistinct
empty_rest p w n = record { each = tt; range = tt; few = omega arith; apart = tt }

class_rest : (p : Program) (w : World) (n : ℕ) → Rest p w (InClass false) n []
unfolding IsDistinct
class_rest p w n = record { each = tt; range = tt; few = omega arith; apart = (tt, tt) }

goes_or_stands : (p : Program) (w : World) (f : Entry) → Goes p w f → (x : Option Value) → IsTop p w x InMethod f
goes_or_stands p w f g None = g
goes_or_stands p w f g (Some v) = g.stands

-- ---- methods that the driver finds

record PlainMethod (p : Program) (name : List ℕ) (m : ℕ) : Type 0 where
  plain : is_static (method_at p m).flags ≡ false
  descriptor : (method_at p m).descriptor ≡ no_arguments

plain_in : (p : Program) (name : List ℕ) (ms : List ℕ) (m : ℕ) → plain_method_in p name ms ≡ Some m → (member m ms ≡ true) × PlainMethod p name m
plain_in p name [] m e = absurd (cc)
plain_in p name (x ∷ ms) m e = by (is_static (method_at p x).flags) (bytes_eq (method_at p x).name name) (bytes_eq (method_at p x).descriptor no_arguments) refl refl e (plain_in p name ms m)
  where
    more : (plain_method_in p name ms ≡ Some m → (member m ms ≡ true) × PlainMethod p name m) → plain_method_in p name ms ≡ Some m → (member m (x ∷ ms) ≡ true) × PlainMethod p name m
    more k e = let r = k e in (or_right (nat_eq m x) (member m ms) r.0, r.1)

    by : (a b c : Bool) → is_static (method_at p x).flags ≡ a → bytes_eq (method_at p x).descriptor no_arguments ≡ c → cond (not a && (b && c)) (Some x) (plain_method_in p name ms) ≡ Some m
        → (plain_method_in p name ms ≡ Some m → (member m ms ≡ true) × PlainMethod p name m) → (member m (x ∷ ms) ≡ true) × PlainMethod p name m
    by false true true q d e k =
        let z : x ≡ m = same_Some _ _ e in
        (or_left (nat_eq m x) (member m ms) (eq-eqb m x (sym z)), subst (λ (y : ℕ). PlainMethod p name y) z (record { plain = q; descriptor = units_true (method_at p x).descriptor no_arguments d }))
    by _ _ _ q d e k = more k e

-- its class
record PlainOf (p : Program) (name : List ℕ) (m : ℕ) (cs : List ℕ) : Type 0 where
  plain : PlainMethod p name m
  class : ℕ
  listed : member class cs ≡ true
  declared : member m (class_at p class).methods ≡ true

plain_of : (p : Program) (name : List ℕ) (cs : List ℕ) (m : ℕ) → plain_method_of p name cs ≡ Some m → PlainOf p name m cs
plain_of p name [] m e = absurd (cc)
plain_of p name (c ∷ cs) m e = by (plain_method_in p name (class_at p c).methods) refl e (plain_of p name cs m)
  where
    by : (o : Option ℕ) → plain_method_in p name (class_at p c).methods ≡ o → elim o as (λ x. Option ℕ) [ Some n ↦ Some n | None ↦ plain_method_of p name cs ] ≡ Some m → (plain_method_of p name cs ≡ Some m → PlainOf p name m cs) → PlainOf p name m (c ∷ cs)
    by (Some n) q e k =
        let z : n ≡ m = cc in
        let r = plain_in p name (class_at p c).methods m (q ∙ ap {B = Option ℕ} (λ y. Some y) z) in
        record { plain = r.1; class = c; listed = member_first c cs; declared = r.0 }
    by None q e k = let r = k e in record { plain = r.plain; class = r.class; listed = or_right (nat_eq r.class c) (member r.class cs) r.listed; declared = r.declared }

-- ---- what the driver enters methods with

module _ (p : Program) (ty : IsTyped p) (w : World) where
  -- a static method without arguments
  pub enters_static : (m : ℕ) → is_static (method_at p m).flags ≡ true → (method_at p m).descriptor ≡ no_arguments → EntersWith p w m []
  unfolding parameters
  enters_static m f d e c = subst (λ (ts : List VType). HaveTypes p w e (spread ts) [])
      (sym (ap (λ (x : Bool). elim x as (λ z. List VType) [ true ↦ [] | false ↦ elim (is_constructor (method_at p m)) as (λ z. List VType) [ true ↦ UninitThis ∷ [] | false ↦ Object (name_of p (method_at p m).class) ∷ [] ] ] ++ flat_map types_of (parameters (method_at p m).descriptor)) f
      ∙ ap (λ (x : List ℕ). flat_map types_of (parameters x)) d)) tt

  -- one of an instance without arguments, on an object of a class below its own
  enters_object : (m o c : ℕ) → is_static (method_at p m).flags ≡ false → (method_at p m).descriptor ≡ no_arguments → IsOfClass w c o → is_below p c (method_at p m).class ≡ true → IsClass p (method_at p m).class → EntersWith p w m (value.Obj o ∷ [])
  unfolding parameters
  enters_object m o c f d i b h e z = subst (λ (ts : List VType). HaveTypes p w e (spread ts) (value.Obj o ∷ []))
      (sym (ap (λ (ts : List VType). ts ++ flat_map types_of (parameters (method_at p m).descriptor)) (this_is p (method_at p m) f) ∙ ap (λ (x : List ℕ). this_type p (method_at p m) ∷ flat_map types_of (parameters x)) d))
      (by (is_constructor (method_at p m)))
    where
      by : (x : Bool) → HaveTypes p w e (spread (cond x UninitThis (Object (name_of p (method_at p m).class)) ∷ [])) (value.Obj o ∷ [])
      by true = ((i.0, subst (λ (k : Kind). is_class_with (λ a. is_below p a e.class) k ≡ true) (sym i.1) (subst (λ (n : ℕ). is_below p c n ≡ true) (sym z) b)), tt)
      by false = ((i.0, subst (λ (k : Kind). IsInstance p k (name_of p (method_at p m).class)) (sym i.1) (below_is p ty.linked c (method_at p m).class h b)), tt)

module _ (p : Program) (ty : IsTyped p) {w : World} (s : State) (h : Local p w s) (k : s.entries.top.kind ≡ Absent) where
  nothing : all_entries s.entries ≡ []
  nothing = ap (λ (x : EntryKind). elim x as (λ z. List Entry) [ Absent ↦ s.entries.below | InMethod ↦ s.entries.top ∷ s.entries.below | InClass b ↦ s.entries.top ∷ s.entries.below ]) k ∙ none_below p w s.entries.top k s.entries.below h.entries.below

  -- the entries, whatever is raised
  whatever : (x : Option Value) → TypedEntries p w x s.entries
  whatever x = record { references = h.entries.references; few = h.entries.few; alone = h.entries.alone; top = subst (λ (y : EntryKind). IsTop p w x y s.entries.top) (sym k) tt; below = h.entries.below; one_each = h.entries.one_each }

  -- a method is called
  frame_typed : (m : ℕ) (b : Body) (vs : List Value) → (method_at p m).body ≡ Some b → EntersWith p w m vs → Ranged p w vs → TypedEntries p w s.raised (with_entry (frame_of b m vs) s.entries)
  frame_typed m b vs hb e g =
      let f = entered_frame p ty w m b vs hb e g in
      subst (λ (fs : List Entry). TypedEntries p w s.raised (record { top = frame_of b m vs; below = fs })) (sym nothing)
      (closed s.raised (frame_of b m vs) tt (goes_or_stands p w (frame_of b m vs) f.goes s.raised) tt f.range (empty_rest p w m))

  drives-typed : (m : ℕ) (vs : List Value) (after : Stage) → EntersWith p w m vs → Ranged p w vs → HasStage p w (test_at p s.test) after → Step p w (drives p m vs after s)
  unfolding drives
  drives-typed m vs after e g q = by (method_at p m).body refl
    where
      by : (b : Option Body) → (method_at p m).body ≡ b → Step p w (driven p b m vs after s)
      by None hb = throws-typed p ty abstract_method_error (record s { stage = after }) (thrown p ty.linked abstract_method_error refl) (whatever (Some value.Null)) (record { test = h.test; stage = q })
      by (Some b) hb = typed_spend (typed_done (record { test = h.test; entries = frame_typed m b vs hb e g; raised = h.raised; stage = q }))

  -- a class is used first
  used-typed : (c : ℕ) {t : Access Turn} → IsClass p c → Step p w t → Step p w (bind (begin p c s.entries) (once_driven p s t))
  unfolding begin
  used-typed c {t = t} i f = either (is_trivial p c) refl
    where
      full : (b : Bool) → is_trivial p c ≡ false → Step p w (bind (cond b (done (refused stack_overflow_error)) (write (place.Init c) Running (done (begun (with_entry (class_entry c) s.entries))))) (once_driven p s t))
      full true n = throws-typed p ty stack_overflow_error s (thrown p ty.linked stack_overflow_error refl) (whatever (Some value.Null)) (tested h)
      full false n =
          let v = put w (place.Init c) Running in
          let g = grows_begin p w c in
          typed_mark i (typed_done (record {
            test = h.test;
            entries = subst (λ (fs : List Entry). TypedEntries p v None (record { top = class_entry c; below = fs })) (sym nothing)
                (closed None (class_entry c) tt (record { not_trivial = n; running = at_put_same w (place.Init c) Running refl }) tt tt (class_rest p v c));
            raised = tt;
            stage = stage_over p w v g.over (test_at p s.test) s.stage h.stage;
          }))

      looks : (x : InitState) → is_trivial p c ≡ false → Step p w (bind (begun_at c s.entries x) (once_driven p s t))
      looks Idle n = full (is_full s.entries) n
      looks Erroneous n = throws-typed p ty no_class_error s (thrown p ty.linked no_class_error refl) (whatever (Some value.Null)) (tested h)
      looks _ n = f

      either : (b : Bool) → is_trivial p c ≡ b → Step p w (bind (cond b (done ready) (read (place.Init c) (begun_at c s.entries))) (once_driven p s t))
      either true q = f
      either false q = typed_read i (λ x e. looks x q)

  -- the test
  test : TestEntry
  test = test_at p s.test

  place_of_test : s.test - 1 < length p.tests
  place_of_test = let a = h.test.0 in let b = h.test.1 in omega arith

  test_is : IsTest p test
  unfolding test
  test_is = ty.linked.tests (s.test - 1) no_test place_of_test

  test_class : IsClass p test.class
  unfolding test
  test_class = (ty.linked.numbers.tests (s.test - 1) no_test place_of_test).0

  test_method_is : IsMethod p test.method
  unfolding test
  test_method_is = (ty.linked.numbers.tests (s.test - 1) no_test place_of_test).1

  some_over : (v : World) → Over w v → (x : Option Value) → IfSome x (IsThrowable p w) → IfSome x (IsThrowable p v)
  some_over v g None q = tt
  some_over v g (Some x) q = throwable_over p w v g x q

  makes-typed : is_static (method_at p test.method).flags ≡ false → Step p w (makes p test.class s)
  unfolding blank test
  makes-typed f =
      let x = blank p (instance_head test.class) in
      let v = make_object w x in
      let g = grows_make p w x in
      typed_spend (typed_make (blank_new p ty w (instance_head test.class) test_class) (typed_done (record {
        test = h.test;
        entries = entries_grow s.raised s.entries g h.entries;
        raised = some_over v g.over s.raised h.raised;
        stage = (((let e = size_make w x in omega arith), new_kind p w test.class x refl), f);
      })))

  first-typed : Step p w (drive_first p s)
  unfolding drive_first test
  first-typed = by (is_static (method_at p test.method).flags) refl
    where
      by : (b : Bool) → is_static (method_at p test.method).flags ≡ b → Step p w (cond b (bind (begin p (method_at p test.method).class s.entries) (once_driven p s (drives p test.method [] (Last None) s))) (bind (begin p test.class s.entries) (once_driven p s (makes p test.class s))))
      by true q = used-typed (method_at p test.method).class (ty.linked.numbers.methods test.method test_method_is) (drives-typed test.method [] (Last None) (enters_static p ty w test.method q test_is.descriptor) tt tt)
      by false q = used-typed test.class test_class (makes-typed q)

  -- a method of the object, of a class at or above that of the test
  on_object : (m o : ℕ) (after : Stage) (c : ℕ) → PlainMethod p [] m → (method_at p m).class ≡ c → IsClass p c → is_below p test.class c ≡ true → HasObject p w test o → HasStage p w (test_at p s.test) after → Step p w (drives p m (value.Obj o ∷ []) after s)
  on_object m o after c q e i b g st = drives-typed m (value.Obj o ∷ []) after
      (enters_object p ty w m o test.class q.plain q.descriptor g.0 (subst (λ (n : ℕ). is_below p test.class n ≡ true) (sym e) b) (subst (λ (n : ℕ). IsClass p n) (sym e) i)) (g.0.0, tt) st

  any_name : {name : List ℕ} {m : ℕ} → PlainMethod p name m → PlainMethod p [] m
  any_name q = record { plain = q.plain; descriptor = q.descriptor }

  init-typed : (o : ℕ) → HasObject p w test o → Step p w (drive_init p o s)
  unfolding drive_init test
  init-typed o g = by (plain_method_in p init_name (class_at p test.class).methods) refl (test_is.init g.1)
    where
      by : (x : Option ℕ) → plain_method_in p init_name (class_at p test.class).methods ≡ x → IsSome x → Step p w (elim x as (λ z. Access Turn) [ None ↦ done stuck_turn | Some m ↦ drives p m (value.Obj o ∷ []) (Built o) s ])
      by None q i = absurd (let z : false ≡ true = i in cc)
      by (Some m) q i =
          let r = plain_in p init_name (class_at p test.class).methods m q in
          let d = declares p ty.linked test.class m r.0 in
          on_object m o (Built o) test.class (any_name r.1) d.own test_class (below_same p test.class) g g

  method-typed : (o : ℕ) → HasObject p w test o → Step p w (drive_method p o s)
  unfolding drive_method test is_below
  method-typed o g =
      let f = found (λ n. is_method p (method_at p test.method).name no_arguments n) (flat_map (λ d. (class_at p d).methods) (upwards p test.class)) test.method test_is.method in
      let c = of_classes p ty.linked (upwards p test.class) test.method f.listed in
      on_object test.method o (Called o None) c.class (record { plain = g.1; descriptor = test_is.descriptor }) c.declared.own c.declared.is_class c.listed g (g, tt)

  above_typed : (name : List ℕ) (m o : ℕ) (after : Stage) → plain_method_of p name (upwards p test.class) ≡ Some m → HasObject p w test o → HasStage p w (test_at p s.test) after → Step p w (drives p m (value.Obj o ∷ []) after s)
  unfolding is_below
  above_typed name m o after q g st =
      let r = plain_of p name (upwards p test.class) m q in
      let d = declares p ty.linked r.class m r.declared in
      on_object m o after r.class (any_name r.plain) d.own d.is_class r.listed g st

  set_up-typed : (o : ℕ) → HasObject p w test o → Step p w (drive_set_up p o s)
  unfolding drive_set_up test
  set_up-typed o g = by (plain_method_of p set_up_name (upwards p test.class)) refl
    where
      by : (x : Option ℕ) → plain_method_of p set_up_name (upwards p test.class) ≡ x → Step p w (elim x as (λ z. Access Turn) [ None ↦ drive_method p o s | Some m ↦ drives p m (value.Obj o ∷ []) (SetUp o) s ])
      by None q = method-typed o g
      by (Some m) q = above_typed set_up_name m o (SetUp o) q g g

  -- ---- the verdict

  judged-typed : (out : List ℕ) (c : ℕ) (text : Option (List ℕ)) → TurnsTo p w (judged p out c text)
  judged-typed out c text = by (is_below p c assertion_error) _ _
    where
      by : (b : Bool) (x y : Verdict) → TurnsTo p w (cond b (ended x out) (ended y out))
      by true x y = tt
      by false x y = tt

  message-typed : (out : List ℕ) (c : ℕ) (v : Value) → RefersTo p w string_name v → Step p w (judged_message p out c v)
  message-typed out c value.Null i = typed_done (judged-typed out c None)
  message-typed out c (value.Lit n) i = typed_spend (typed_done (judged-typed out c (Some (literal_at p n))))
  message-typed out c (value.Obj o) i = typed_read i.0 (λ t e. typed_spend (typed_done (judged-typed out c (Some t))))
  message-typed out c _ i = absurd i

  judge-typed : (x : Option Value) → IfSome x (IsThrowable p w) → Step p w (judge p x s)
  unfolding judge
  judge-typed None i = typed_done tt
  judge-typed (Some (value.Obj o)) i = typed_read i.0 (λ z e.
      typed_read (message_at o i (subst (λ (x : Head). IsKind p x.kind) e.0 e.1)) (λ v d. message-typed s.own.output (class_of z.kind) v (message_got p ty.linked w v d)))
    where
      instance_of : (x : Kind) → IsKind p x → is_below p (class_of x) throwable_class ≡ true → IsInstance p x (name_of p throwable_class)
      instance_of x j b = throwable_instance p ty x j b

      message_at : (o : ℕ) → IsThrowable p w (value.Obj o) → IsKind p (kind_at w o) → IsSpot p w (place.Field o message_field)
      message_at o i j = message_spot p ty.linked w o i.0 j (instance_of (kind_at w o) j i.1)
  judge-typed _ i = absurd i

  tear_down-typed : (o : ℕ) (v : Option Value) → HasObject p w test o → IfSome v (IsThrowable p w) → Step p w (drive_tear_down p o v s)
  unfolding drive_tear_down test
  tear_down-typed o v g i = by (plain_method_of p tear_down_name (upwards p test.class)) refl
    where
      by : (x : Option ℕ) → plain_method_of p tear_down_name (upwards p test.class) ≡ x → Step p w (elim x as (λ z. Access Turn) [ None ↦ judge p v s | Some m ↦ drives p m (value.Obj o ∷ []) (Last v) s ])
      by None q = judge-typed v i
      by (Some m) q = above_typed tear_down_name m o (Last v) q g i

  at_stage : (x : Stage) → HasStage p w (test_at p s.test) x → Step p w (drive_at p x s)
  unfolding test
  at_stage First g = first-typed
  at_stage (Made o) g = init-typed o g
  at_stage (Built o) g = set_up-typed o g
  at_stage (SetUp o) g = method-typed o g
  at_stage (Called o v) g = tear_down-typed o v g.0 g.1
  at_stage (Last v) g = judge-typed v g

  pub drive-typed : Step p w (drive p s)
  unfolding drive
  drive-typed = at_stage s.stage h.stage
