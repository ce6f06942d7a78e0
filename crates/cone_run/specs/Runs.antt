-- What the run of a list of tests gives, on a machine that was set back.
use Rattle.std.specs.Prelude.{◌≡◌, ℕ, ◌+◌, ◌≤◌, List, [], ◌∷◌, ◌++◌, length, All, Some}
use Rattle.jvm_model.specs.{declared.program.Program.Program, Suite.first_over, Suite.last_outcome, Suite.suite_limit}
use Rattle.order_law.specs.Conflicts.{Member}
use Rattle.test_run.specs.{declared.run_fault.RunFault.RunFault, Running.IsTest, Running.Posted}
use Rattle.test_run.specs.declared.run_fault.RunFault.TheVariants as fault
use Rattle.cone_run.specs.Cones.{cone_units}

-- a piece of a list of tests
pub record IsPieceOf (p : Program) (l : List ℕ) (x : Posted) : Type 0 where
  pub program : x.program ≡ p
  pub list : x.list ≡ l
  pub gives : last_outcome p l ≡ Some x.outcome

-- A test ran after those of a list, and this is its piece.
pub record RanAfter (p : Program) (l : List ℕ) (t : ℕ) (x : Posted) : Type 0 where
  pub piece : IsPieceOf p (l ++ (t ∷ [])) x
  pub units : cone_units p (l ++ (t ∷ [])) ≡ cone_units p l + x.outcome.units
  pub few : x.outcome.units ≤ suite_limit

-- After the tests of a list this one passes its budget, whatever comes behind it.
pub record IsOverAfter (p : Program) (l : List ℕ) (t u : ℕ) : Type 0 where
  pub named : u ≡ t
  pub first : (r : List ℕ) → first_over p (l ++ (t ∷ r)) ≡ Some t
  pub units : (r : List ℕ) → cone_units p (l ++ (t ∷ r)) ≡ cone_units p l

-- a refusal of a test after a list; or want of memory
abbrev pub IsNextFault : Program → List ℕ → ℕ → RunFault → Type 0
IsNextFault p l t (fault.OverBudget u) = IsOverAfter p l t u
IsNextFault p l t fault.NoMemory = Unit {0}

-- A refusal of a list, from so many units to so many: its first test that gives nothing, and those before it are counted; or
-- want of memory.
abbrev pub IsListFault : Program → List ℕ → ℕ → ℕ → RunFault → Type 0
IsListFault p l begun now (fault.OverBudget u) = (first_over p l ≡ Some u) × (now ≡ begun + cone_units p l)
IsListFault p l begun now fault.NoMemory = Unit {0}

-- a list of tests of the program, this one among them, and no more than there may be
pub record HasTest (p : Program) (t : ℕ) (l : List ℕ) : Type 0 where
  pub tests : All (IsTest p) l
  pub own : Member t l
  pub few : length l ≤ 1024
