-- What the run of a list of tests gives.
use Rattle.std.specs.Prelude.{◌≡◌, ℕ, ◌+◌, List, [], ◌∷◌, ◌++◌, length, map, Some}
use Rattle.jvm_model.specs.{declared.outcome.Outcome.Outcome, declared.program.Program.Program, declared.values.Touch.Touch, State.test_at, World.World}
use Rattle.jvm_model.specs.Suite.{Given, first_over_on, one_test, runs_on, units_of, world_after}
use Rattle.vm_mem.specs.Trace.{Trace, next_test}
use Rattle.test_run.specs.{declared.run_fault.RunFault.RunFault, Running.IsRefused}
use Rattle.test_run.specs.declared.run_fault.RunFault.TheVariants as fault

-- the story, and the touches of its last test, after these tests gave these
abbrev pub trace_after : Trace × List Touch → List ℕ → List Given → Trace × List Touch
trace_after s [] xs = s
trace_after s (t ∷ l) [] = s
trace_after s (t ∷ l) (x ∷ xs) = trace_after (next_test s.0 s.1 t, x.touches) l xs

-- a memory then follows these tests and their touches
abbrev pub TracesAll : {M : Type 0} → List ℕ → List Given → (M → Trace → List Touch → Type 0) → M → M → Type 0
TracesAll l xs follows old new = (h : Trace) (ts : List Touch) → follows old h ts → follows new (trace_after (h, ts) l xs).0 (trace_after (h, ts) l xs).1

-- the tests of a list ran one after the other, each within its own budget
pub record RanList {M : Type 0} (world : M → World) (follows : M → Trace → List Touch → Type 0) (p : Program) (old new : M) (l : List ℕ) (os : List Outcome) (begun now : ℕ) : Type 0 where
  pub given : List Given
  pub ran : runs_on p (world old) l ≡ Some given
  pub each : length given ≡ length l
  pub outcomes : os ≡ map (λ x. x.outcome) given
  pub left : world new ≡ world_after (world old) given
  pub told : TracesAll l given follows old new
  pub counted : now ≡ begun + units_of given

-- one test ran, and its outcome was added
pub record RanNext {M : Type 0} (world : M → World) (follows : M → Trace → List Touch → Type 0) (p : Program) (old new : M) (t : ℕ) (os more : List Outcome) (begun now : ℕ) : Type 0 where
  pub given : Given
  pub gives : one_test p (world old) t (test_at p t).budget ≡ Some given
  pub outcomes : more ≡ os ++ (given.outcome ∷ [])
  pub left : world new ≡ given.world
  pub told : (h : Trace) (ts : List Touch) → follows old h ts → follows new (next_test h ts t) given.touches
  pub counted : now ≡ begun + given.outcome.units

-- a refusal of a list: the first of its tests that gives nothing; or want of memory
abbrev pub IsListRefused : Program → World → List ℕ → RunFault → Type 0
IsListRefused p w l (fault.OverBudget u) = first_over_on p w l ≡ Some u
IsListRefused p w l fault.NoMemory = Unit {0}

-- the tests that are left at a refusal, in this world: the first one gives nothing where it is over its budget
abbrev pub AreLeft : Program → World → RunFault → List ℕ → Type 0
AreLeft p w (fault.OverBudget u) [] = ⊥
AreLeft p w (fault.OverBudget u) (t ∷ l) = IsRefused p w t (test_at p t).budget (fault.OverBudget u)
AreLeft p w fault.NoMemory l = Unit {0}

-- the first tests of a list that was refused ran, and their units alone were counted
pub record RanBefore (p : Program) (w : World) (l : List ℕ) (begun now : ℕ) (f : RunFault) : Type 0 where
  pub before : List ℕ
  pub after : List ℕ
  pub given : List Given
  pub list : l ≡ before ++ after
  pub ran : runs_on p w before ≡ Some given
  pub counted : now ≡ begun + units_of given
  pub left : AreLeft p (world_after w given) f after
