-- How a step ends: after its row, after a class is used, and where it throws by itself.
use Rattle.std.proofs.Common.{◌≡◌, ℕ, ◌<◌, ◌≤◌, List, length, Bool, true, false, cond, Option, Some, None, IfSome, refl, sym, ◌∙◌, ap, subst, arith}
use Rattle.jvm_model.specs.declared.values.{Value.Value, Kind.Kind, Head.Head, InitState.InitState}
use Rattle.jvm_model.specs.declared.values.Value.TheVariants as value
use Rattle.jvm_model.specs.declared.values.Kind.TheVariants as kind
use Rattle.jvm_model.specs.declared.values.InitState.TheVariants.{Idle, Running, Erroneous}
use Rattle.jvm_model.specs.declared.values.Location.TheVariants as place
use Rattle.jvm_model.specs.declared.state.EntryKind.{EntryKind, TheVariants.Absent}
use Rattle.jvm_model.specs.declared.{state.Stage.Stage, instr.Instr.Instr, program.Program.Program, program.TestEntry.TestEntry}
use Rattle.jvm_model.specs.declared.state.Stage.TheVariants.{First, Made, Built, SetUp, Called, Last}
use Rattle.jvm_model.specs.declared.outcome.Next.TheVariants as step
use Rattle.jvm_model.specs.World.{Object, World, size, at, make_object}
use Rattle.jvm_model.specs.Access.{Access, done, read, write, bind}
use Rattle.jvm_model.specs.Builtin.{throwable_class, stack_overflow_error, no_class_error}
use Rattle.jvm_model.specs.{Classes.blank, Classes.instance_head, Classes.is_trivial, Classes.is_below, Kinds.class_of, Throwing.throws}
use Rattle.jvm_model.specs.Entries.{Entries, is_full, with_entry, class_entry, with_stack}
use Rattle.jvm_model.specs.Rows.{Answer, answer, ready, begun, refused, begun_at, begin, once, using}
use Rattle.jvm_model.specs.State.{State, Turn, next, ended, stuck_turn, test_at, or_first, thrown_at, raise, raised_in, with_entries}
use Rattle.jvm_model.proofs.Locations.{at_make_new, size_make}
use Rattle.type_frames.specs.Typing.{IsTyped}
use Rattle.type_frames.specs.TypedState.{kind_at, IsTop, IsThrowable, HasObject, HasStage}
use Rattle.check_sound.proofs.Tree.{Tree, typed_done, typed_read, typed_mark, typed_make, typed_spend, Over}
use Rattle.check_sound.proofs.{Grow.Ranged, Grow.throwable_over, Grow.kind_over, Onward.grows_make, Onward.entries_grow, Onward.begun_typed}
use Rattle.check_sound.proofs.Ready.{TypedEntries, IsThrown, Ends, Row, Ready, again_typed, raised_typed, any_raised}
use Rattle.check_sound.proofs.{Thrown.thrown, Blank.blank_new}

-- the parts of a typed state beside its world
pub record Local (p : Program) (w : World) (s : State) : Type 0 where
  pub test : (0 < s.test) × (s.test ≤ length p.tests)
  pub entries : TypedEntries p w s.raised s.entries
  pub raised : IfSome s.raised (IsThrowable p w)
  pub stage : HasStage p w (test_at p s.test) s.stage

-- how a step may end
abbrev pub TurnsTo : Program → World → Turn → Type 0
TurnsTo p w (next s) = Local p w s
TurnsTo p w (ended v o) = Unit {0}
TurnsTo p w stuck_turn = ⊥

-- a step's typed tree
abbrev pub Step : Program → World → Access Turn → Type 0
Step p w t = Tree p (TurnsTo p) w t

-- the test and its stage
pub record Tested (p : Program) (w : World) (s : State) : Type 0 where
  pub test : (0 < s.test) × (s.test ≤ length p.tests)
  pub stage : HasStage p w (test_at p s.test) s.stage

module _ (p : Program) (u w : World) (g : Over u w) where
  some_throwable : (v : Option Value) → IfSome v (IsThrowable p u) → IfSome v (IsThrowable p w)
  some_throwable None h = tt
  some_throwable (Some v) h = throwable_over p u w g v h

  pub object_over : (t : TestEntry) (o : ℕ) → HasObject p u t o → HasObject p w t o
  object_over t o h = (((let s = g.sizes in let l = h.0.0 in omega arith), sym (kind_over p u w g o h.0.0) ∙ h.0.1), h.1)

  pub stage_over : (t : TestEntry) (s : Stage) → HasStage p u t s → HasStage p w t s
  stage_over t First h = tt
  stage_over t (Made o) h = object_over t o h
  stage_over t (Built o) h = object_over t o h
  stage_over t (SetUp o) h = object_over t o h
  stage_over t (Called o v) h = (object_over t o h.0, some_throwable v h.1)
  stage_over t (Last v) h = some_throwable v h

  pub tested_over : (s : State) → Tested p u s → Tested p w s
  tested_over s h = record { test = h.test; stage = stage_over (test_at p s.test) s.stage h.stage }

pub tested : {p : Program} {w : World} {s : State} → Local p w s → Tested p w s
tested h = record { test = h.test; stage = h.stage }

module _ (p : Program) (w : World) where
  first_decides : (u : Option Value) (v : Value) → IfSome u (IsThrowable p w) → IsThrowable p w v → IfSome (or_first u v) (IsThrowable p w)
  first_decides None v h t = t
  first_decides (Some u) v h t = h

  thrown_stage : (t : TestEntry) (s : Stage) (v : Value) → HasStage p w t s → IsThrowable p w v → HasStage p w t (thrown_at s v)
  thrown_stage t (Called o u) v h k = (h.0, first_decides u v h.1 k)
  thrown_stage t (Last u) v h k = first_decides u v h k
  thrown_stage t _ v h k = k

  -- a throwable is raised into the top entry, or comes to the driver
  pub raise_typed : (v : Value) (s : State) → IsThrowable p w v → TypedEntries p w (Some v) s.entries → Tested p w s → Local p w (raise v s)
  raise_typed v s h t q = by s.entries.top.kind refl
    where
      by : (k : EntryKind) → s.entries.top.kind ≡ k → Local p w (raised_in k v s)
      by Absent e = record {
        test = q.test;
        raised = tt;
        stage = thrown_stage (test_at p s.test) s.stage v q.stage h;
        entries = record { references = t.references; few = t.few; alone = t.alone; top = subst (λ (k : EntryKind). IsTop p w None k s.entries.top) (sym e) tt; below = t.below; one_each = t.one_each };
      }
      by _ e = record { test = q.test; raised = h; stage = q.stage; entries = t }

  pub goes_typed : (s : State) (t : Entries) → TypedEntries p w None t → Tested p w s → Local p w (with_entries s t)
  goes_typed s t h q = record { test = q.test; raised = tt; stage = q.stage; entries = h }

  -- the newest object of a class
  pub new_kind : (c : ℕ) (x : Object) → x.head.kind ≡ kind.Class c → kind_at (make_object w x) (size w) ≡ kind.Class c
  new_kind c x e = ap (λ (z : Head). z.kind) (at_make_new w x (place.Head (size w)) refl) ∙ e

module _ (p : Program) (ty : IsTyped p) where
  -- a step that throws by itself
  pub throws-typed : {w : World} (c : ℕ) (s : State) → IsThrown p c → TypedEntries p w (Some value.Null) s.entries → Tested p w s → Step p w (throws p c s)
  unfolding throws blank
  throws-typed {w = w} c s i t q =
      let x = blank p (instance_head c) in
      let v = make_object w x in
      let g = grows_make p w x in
      let o = value.Obj (size w) in
      typed_spend (typed_make (blank_new p ty w (instance_head c) i.0) (typed_done (raise_typed p v o s
      ((let e = size_make w x in omega arith), subst (λ (k : Kind). is_below p (class_of k) throwable_class ≡ true) (sym (new_kind p w c x refl)) i.1)
      (any_raised p v value.Null o s.entries (entries_grow (Some value.Null) s.entries g t)) (tested_over p w v g.over s q))))

  module _ {w : World} {s : Entries} {i : Instr} (r : Ready p w s i) where
    pub fault_typed : (c : ℕ) (vs : List Value) → IsThrown p c → Ranged p w vs → Ends p w (answer (step.Fault c) (with_stack s vs))
    fault_typed c vs h g = (h, raised_typed p ty r value.Null vs g)

    -- an instruction that uses a class
    pub using-typed : (c : ℕ) {k : Access (Answer Entries)} → c < length p.classes → Row p w k → Row p w (using p c s k)
    unfolding begin
    using-typed c {k = k} h f = either (is_trivial p c) refl
      where
        full : (b : Bool) → is_full s ≡ b → is_trivial p c ≡ false → at w (place.Init c) ≡ Idle → Row p w (bind (cond b (done (refused stack_overflow_error)) (write (place.Init c) Running (done (begun (with_entry (class_entry c) s))))) (once s k))
        full true b n q = typed_done (fault_typed stack_overflow_error s.top.stack (thrown p ty.linked stack_overflow_error refl) r.stack.range)
        full false b n q = typed_mark h (typed_done (begun_typed ty r c (again_typed p ty r) b n q h))

        looks : (x : InitState) → x ≡ at w (place.Init c) → is_trivial p c ≡ false → Row p w (bind (begun_at c s x) (once s k))
        looks Idle q n = full (is_full s) refl n (sym q)
        looks Erroneous q n = typed_done (fault_typed no_class_error s.top.stack (thrown p ty.linked no_class_error refl) r.stack.range)
        looks _ q n = f

        either : (b : Bool) → is_trivial p c ≡ b → Row p w (bind (cond b (done ready) (read (place.Init c) (begun_at c s))) (once s k))
        either true q = f
        either false q = typed_read h (λ x e. looks x e q)
