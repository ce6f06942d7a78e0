-- Checked code never gets stuck.
use Rattle.std.specs.Prelude.{◌≡◌, ℕ, ◌<◌}
use Rattle.jvm_model.specs.{declared.program.Program.Program, World.World, World.size, World.object_at, Access.run, Step.step, View.IsSafe, View.IsTurn}
use Rattle.jvm_model.specs.State.{State, Turn, next, ended, stuck_turn}
use Rattle.type_frames.specs.{Typing.IsTyped, TypedState.TypedWorld, TypedState.TypedState}

-- The next state is typed in this world; where the test ended, the world is typed. There is always one of the two.
abbrev pub StaysTyped : Program → World → Turn → Type 0
StaysTyped p w (next s) = TypedState p w s
StaysTyped p w (ended v o) = TypedWorld p w
StaysTyped p w stuck_turn = ⊥

-- From a typed state of a typed program the step reads and writes only what is there, and it has a row, after which the
-- state is typed again, or the test ended over a typed world.
abbrev pub StepLaw : Type 0
StepLaw = (p : Program) (w : World) (s : State) → IsTyped p → TypedState p w s → IsSafe IsTurn (step p s) w × StaysTyped p (run (step p s) w).world (run (step p s) w).value

-- No step takes an object away, or writes the head of one that stands: what it is an instance of, and its length.
abbrev pub HeadsLaw : Type 0
HeadsLaw = (p : Program) (w : World) (s : State) (o : ℕ) → IsTyped p → TypedState p w s → o < size w → (o < size (run (step p s) w).world) × ((object_at (run (step p s) w).world o).head ≡ (object_at w o).head)
