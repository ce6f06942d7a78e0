-- Typed states of a small suite: the start of its test, a class whose superclass is being initialised, and a frame that waits
-- at a call.
use Rattle.std.proofs.Common.{ℕ, zero, suc, ◌<◌, List, [], ◌∷◌, length, pos, Bool, true, false, Some, None, refl, arith}
use Rattle.std.specs.Prelude.{codes}
use Rattle.std.specs.List.{IsDistinct}
use Rattle.std.proofs.lemmas.{Bool.leb-true, List.Elements.All-nil, List.Elements.All-from_recursion}
use Rattle.jvm_model.specs.declared.values.{Value.Value, InitState.TheVariants.Running}
use Rattle.jvm_model.specs.declared.values.Value.TheVariants as value
use Rattle.jvm_model.specs.declared.values.Location.TheVariants as place
use Rattle.jvm_model.specs.declared.state.{EntryKind.TheVariants.InMethod, EntryKind.TheVariants.InClass, Stage.TheVariants.Last}
use Rattle.jvm_model.specs.declared.instr.Instr.TheVariants as form
use Rattle.jvm_model.specs.declared.instr.Sort.TheVariants as sort
use Rattle.jvm_model.specs.{declared.program.Program.Program, World.World, World.at, World.put}
use Rattle.jvm_model.specs.{Library.builtin_defs, Library.builtin_classes, Library.builtin_fields, Library.builtin_methods, View.Exists}
use Rattle.jvm_model.specs.{Descriptors.parameters, Descriptors.return_type, Entries.Entry, Initialise.parts_of, Linked.IsField, State.started, Suite.opening}
use Rattle.jvm_model.specs.Classes.{field_at, class_bound, is_trivial, own_interfaces, default_interfaces}
use Rattle.jvm_model.proofs.Examples.Parts.{program, class, body, fixed, static_int, test, int_const, get_static, put_static, call_static, returns}
use Rattle.type_frames.specs.{Frames.index_of, Given.given_frames, Given.body_frames, Environment.given_at, Environment.is_target, StackEffect.sides}
use Rattle.type_frames.specs.{Assign.takes_any, Assign.extends, Assign.class_fits, Assign.object_fits, Typing.incoming}
use Rattle.type_frames.specs.TypedState.{IsDeclared, IsInRange, TypedWorld, TypedState, Goes, Waits, Initialises, IsPushedBy}
use Rattle.type_frames.proofs.Started.{started_law}

-- `t` of class 34 reads a static of class 32, which is below class 33, and leaves it on the stack while it calls `f` with 7
abbrev p : Program
p = program
    (record (class (codes "A") (2 ∷ []) (102 ∷ [])) { superclass = Some 33; initialiser = Some 102 }
    ∷ record (class (codes "B") [] (103 ∷ [])) { initialiser = Some 103 }
    ∷ class (codes "T") [] (104 ∷ 105 ∷ []) ∷ [])
    (static_int 32 (codes "n") ∷ [])
    (fixed 32 (codes "<clinit>") (codes "()V") (body 1 0 (int_const 1 ∷ put_static 2 ∷ returns ∷ []))
    ∷ fixed 33 (codes "<clinit>") (codes "()V") (body 0 0 (returns ∷ []))
    ∷ fixed 34 (codes "t") (codes "()V") (body 2 0 (get_static 2 ∷ int_const 7 ∷ call_static 105 ∷ (1, form.Pop) ∷ (1, form.Pop) ∷ returns ∷ []))
    ∷ fixed 34 (codes "f") (codes "(I)I") (body 1 1 ((1, form.Load sort.Int 0) ∷ (1, form.Return (Some sort.Int)) ∷ [])) ∷ [])
    [] (test 34 104 ∷ [])

-- the opening world, but that two classes are being initialised
abbrev w : World
w = put (put (opening p) (place.Init 32) Running) (place.Init 33) Running

static_typed : (f : ℕ) → IsField p f → Exists w (place.Static f) × IsDeclared p w (field_at p f).descriptor (at w (place.Static f))
unfolding opening builtin_fields builtin_classes builtin_defs takes_any extends class_fits object_fits
static_typed zero h = (omega arith, (omega arith, refl))
static_typed (suc zero) h = (omega arith, tt)
static_typed (suc (suc zero)) h = (omega arith, refl)
static_typed (suc (suc (suc f))) h = absurd (omega arith)

state_there : (c : ℕ) → c < length p.classes → c < length w.states
unfolding opening builtin_classes builtin_defs
state_there c h = h

world_typed : TypedWorld p w
unfolding opening
world_typed = record {
  statics = static_typed;
  states = state_there;
  kinds = λ o h. absurd (omega arith);
  fields = λ o c f h. absurd (omega arith);
  elements = λ o d i b h. absurd (omega arith);
}

-- the start of the test
start_typed : TypedState p w (started p 1)
start_typed = started_law p w 1 world_typed (omega arith) (omega arith)

-- a frame at an instruction
abbrev frame : ℕ → ℕ → List Value → List Value → Entry
frame m pc stack locals = record { kind = InMethod; number = m; pc = pc; stack = stack; locals = locals }

abbrev begun : Bool → ℕ → Entry
begun entered c = record { kind = InClass entered; number = c; pc = 0; stack = []; locals = [] }

-- `f` runs, and `t` waits for it
callee_goes : Goes p w (frame 105 0 [] (value.Int (pos 7) ∷ []))
unfolding builtin_methods builtin_defs given_frames body_frames incoming given_at is_target index_of sides parameters return_type
callee_goes = record {
  stands = record { body = _; given = []; index = 0; instruction = _; types = _; fits = leb-true _ _ refl; has_code = refl; has_frames = refl; there = refl; place = refl; known = refl; locals = (tt, tt) };
  operands = refl;
}

caller_waits : Waits p w 105 (frame 104 4 (value.Int (pos 0) ∷ []) [])
unfolding builtin_methods builtin_fields builtin_defs given_frames body_frames incoming given_at is_target index_of sides parameters return_type
caller_waits = record {
  stands = record { body = _; given = []; index = 2; instruction = _; types = _; fits = leb-true _ _ refl; has_code = refl; has_frames = refl; there = refl; place = refl; known = refl; locals = tt };
  named = 105;
  call = refl;
  same_name = refl;
  same_descriptor = refl;
  operands = (tt, refl);
}

call_typed : TypedState p w (record (started p 1) { entries = record { top = frame 105 0 [] (value.Int (pos 7) ∷ []); below = frame 104 4 (value.Int (pos 0) ∷ []) [] ∷ [] }; stage = Last None })
unfolding IsDistinct
call_typed = record {
  test = (omega arith, omega arith);
  world = world_typed;
  references = All-from_recursion (IsInRange p w) (value.Int (pos 7) ∷ value.Int (pos 0) ∷ []) (tt, (tt, tt));
  few = omega arith;
  alone = λ q. absurd (cc);
  top = callee_goes;
  below = (caller_waits, tt);
  one_each = tt;
  raised = tt;
  stage = tt;
}

-- the `<clinit>` of class 33 runs, which class 32 waits for, and for this one the frame of `t`
starter_goes : Goes p w (frame 103 0 [] [])
unfolding builtin_methods builtin_defs given_frames body_frames incoming given_at is_target index_of sides parameters return_type
starter_goes = record {
  stands = record { body = _; given = []; index = 0; instruction = _; types = _; fits = leb-true _ _ refl; has_code = refl; has_frames = refl; there = refl; place = refl; known = refl; locals = tt };
  operands = refl;
}

user_goes : Goes p w (frame 104 0 [] [])
unfolding builtin_methods builtin_defs given_frames body_frames incoming given_at is_target index_of sides parameters return_type
user_goes = record {
  stands = record { body = _; given = []; index = 0; instruction = _; types = _; fits = leb-true _ _ refl; has_code = refl; has_frames = refl; there = refl; place = refl; known = refl; locals = tt };
  operands = refl;
}

upper_begun : Initialises p w (begun true 33)
unfolding opening builtin_classes builtin_defs class_bound is_trivial default_interfaces own_interfaces
upper_begun = record { not_trivial = refl; running = refl }

lower_begun : Initialises p w (begun false 32)
unfolding opening builtin_classes builtin_defs class_bound is_trivial default_interfaces own_interfaces
lower_begun = record { not_trivial = refl; running = refl }

start_pushed : IsPushedBy p (begun true 33) (InClass true) (frame 103 0 [] []) InMethod
unfolding builtin_classes builtin_defs
start_pushed = refl

upper_pushed : IsPushedBy p (begun false 32) (InClass false) (begun true 33) (InClass true)
unfolding builtin_classes builtin_defs class_bound is_trivial default_interfaces own_interfaces parts_of
upper_pushed = refl

initialisation_typed : TypedState p w (record (started p 1) { entries = record { top = frame 103 0 [] []; below = begun true 33 ∷ begun false 32 ∷ frame 104 0 [] [] ∷ [] }; stage = Last None })
unfolding IsDistinct
initialisation_typed = record {
  test = (omega arith, omega arith);
  world = world_typed;
  references = All-nil (IsInRange p w);
  few = omega arith;
  alone = λ q. absurd (cc);
  top = starter_goes;
  below = ((upper_begun, start_pushed), ((lower_begun, upper_pushed), (user_goes, tt)));
  one_each = ((refl, tt), (tt, tt));
  raised = tt;
  stage = tt;
}
