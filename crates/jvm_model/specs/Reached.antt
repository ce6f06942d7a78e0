-- The states that the steps of a test come to, and what a step throws by itself.
use Rattle.std.specs.Prelude.{◌≡◌, ℕ, nat_eq, Bool, false, cond, Option, Some, None}
use Rattle.jvm_model.specs.declared.{values.Value.Value, values.Value.TheVariants.Obj, program.Program.Program}
use Rattle.jvm_model.specs.{World.World, World.size, World.object_at, Access.run, Builtin.stack_overflow_error, Kinds.class_of, Step.step, Step.turn}
use Rattle.jvm_model.specs.State.{State, Turn, next, ended, stuck_turn, started}

-- test t, begun in the world w, comes to the state s in the world v
pub data Reaches (p : Program) (t : ℕ) (w : World) : State → World → Type 0 where
  begins : Reaches p t w (started p t) w
  steps : {s s' : State} {v : World} → Reaches p t w s v → turn p s v ≡ next s' → Reaches p t w s' (run (step p s) v).world

-- whether a value is the object of this place
abbrev pub is_object_at : ℕ → Option Value → Bool
is_object_at n (Some (Obj o)) = nat_eq o n
is_object_at n _ = false

-- the class of the new throwable that the step makes and raises, where it does: the step throws it by itself
abbrev pub thrown_after : ℕ → Turn → World → Option ℕ
thrown_after n (next s) w = cond (is_object_at n s.raised) (Some (class_of (object_at w n).head.kind)) None
thrown_after n (ended v output) w = None
thrown_after n stuck_turn w = None

unfoldable pub thrown_itself : Program → State → World → Option ℕ
thrown_itself p s w = thrown_after (size w) (turn p s w) (run (step p s) w).world

-- the step throws a StackOverflowError by itself
abbrev pub Overflows : Program → State → World → Type 0
Overflows p s w = thrown_itself p s w ≡ Some stack_overflow_error
