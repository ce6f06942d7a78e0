-- What a machine keeps, what contracts see of it and of a piece, and how a test is refused.
use Rattle.std.specs.Prelude.{◌≡◌, ◌<◌, ◌≤◌, ℕ, List, length, Bool, false, Some, None, min}
use Rattle.jvm_model.specs.{declared.outcome.Outcome.Outcome, declared.program.Program.Program, State.test_at, World.World}
use Rattle.jvm_model.specs.Suite.{Given, opening, one_test, runs, world_after}
use Rattle.type_frames.specs.TypedState.{TypedWorld}
use Rattle.check_sound.specs.ReachLaw.{HasStackLimits}
use Rattle.test_run.specs.declared.run_fault.RunFault.{RunFault}
use Rattle.test_run.specs.declared.run_fault.RunFault.TheVariants as fault

-- a number of a test, from 1
abbrev pub IsTest : Program → ℕ → Type 0
IsTest p t = (0 < t) × (t ≤ length p.tests)

-- the smaller of a test's budget and a number
abbrev pub least : Program → ℕ → ℕ → ℕ
least p t most = min (test_at p t).budget most

-- these tests ran on one heap, from the opening world, and left this world
pub record IsAfter (p : Program) (q : List ℕ) (w : World) : Type 0 where
  pub given : List Given
  pub ran : runs p q ≡ Some given
  pub left : w ≡ world_after (opening p) given

-- the memory stands for the typed world after these tests
pub record Stands {M : Type 0} (world : M → World) (p : Program) (q : List ℕ) (m : M) : Type 0 where
  pub after : IsAfter p q (world m)
  pub typed : TypedWorld p (world m)

-- What the type of a machine keeps of its parts: all are of its program. Nothing is kept of the memory's world once a test
-- was refused.
pub record Keeps {M : Type 0} (program : M → Program) (world : M → World) (p tables selections : Program) (q : List ℕ) (m : M) (spent : Bool) : Type 0 where
  pub tables_of : tables ≡ p
  pub selections_of : selections ≡ p
  pub memory_of : program m ≡ p
  pub limits : HasStackLimits p
  pub stands : spent ≡ false → Stands world p q m

-- What contracts see of a machine: its program and number, the tests that it ran, its memory, and whether one was refused.
pub record Machined (M : Type 0) : Type 0 where
  pub program : Program
  pub worker : ℕ
  pub list : List ℕ
  pub memory : M
  pub spent : Bool

-- What contracts see of a piece: its program, worker and list, and what the list's last test gave.
pub record Posted : Type 0 where
  pub program : Program
  pub worker : ℕ
  pub list : List ℕ
  pub outcome : Outcome

-- a refusal of test t in the world w under the budget b: it gives nothing there; or want of memory
abbrev pub IsRefused : Program → World → ℕ → ℕ → RunFault → Type 0
IsRefused p w t b (fault.OverBudget u) = (u ≡ t) × (one_test p w t b ≡ None)
IsRefused p w t b fault.NoMemory = Unit {0}
