-- A whole test of checked code never gets stuck, and leaves a typed world.
use Rattle.std.specs.Prelude.{◌≡◌, ℕ, ◌<◌, ◌≤◌, List, length, Some, All}
use Rattle.jvm_model.specs.{declared.program.Program.Program, World.World, Access.run, View.IsSafe}
use Rattle.jvm_model.specs.Suite.{End, finished, stuck, out_of_steps, tree, opening, Given, one_test, runs_on}
use Rattle.type_frames.specs.{Typing.IsTyped, TypedState.TypedWorld}

-- the test ended, or its steps were used up
abbrev pub IsEnd : End → Type 0
IsEnd (finished v o) = Unit {0}
IsEnd out_of_steps = Unit {0}
IsEnd stuck = ⊥

-- A test of a typed program, begun in a typed world, reads and writes only what is there, whatever its budget, isn't stuck,
-- and leaves a typed world.
abbrev pub TestLaw : Type 0
TestLaw = (p : Program) (t b : ℕ) (w : World) → IsTyped p → TypedWorld p w → 0 < t → t ≤ length p.tests → IsSafe IsEnd (tree p t b) w × TypedWorld p (run (tree p t b) w).world

-- the world before the first test of a typed program is typed
abbrev pub OpeningLaw : Type 0
OpeningLaw = (p : Program) → IsTyped p → TypedWorld p (opening p)

-- a test that gives an outcome in a typed world leaves a typed world
abbrev pub LeftLaw : Type 0
LeftLaw = (p : Program) (t b : ℕ) (w : World) (g : Given) → IsTyped p → TypedWorld p w → 0 < t → t ≤ length p.tests → one_test p w t b ≡ Some g → TypedWorld p g.world

-- and so does each of a list of tests, one after the other
abbrev pub ListLaw : Type 0
ListLaw = (p : Program) (l : List ℕ) (w : World) (gs : List Given) → IsTyped p → TypedWorld p w → All (λ t. (0 < t) × (t ≤ length p.tests)) l → runs_on p w l ≡ Some gs → All (λ g. TypedWorld p g.world) gs
