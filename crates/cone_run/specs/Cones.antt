-- Cones: the tests that one test needs by the edges of a record, and what it gives after them (this project's).
use Rattle.std.specs.Prelude.{◌≡◌, ℕ, ◌+◌, ◌<◌, List, [], ◌∷◌, length, All, Some, None}
use Rattle.jvm_model.specs.{declared.outcome.Outcome.Outcome, declared.program.Program.Program, State.test_at, World.World}
use Rattle.jvm_model.specs.Suite.{opening, one_test, first_over, last_outcome}
use Rattle.order_law.specs.{declared.edges.Edge.Edge, Pairing.PairedList, Plan.Ascending}
use Rattle.type_frames.specs.Typing.{IsTyped}
use Rattle.dep_graph.specs.Graphs.{GoUp}
use Rattle.selection_close.specs.Closed.{IsClosure}
use Rattle.test_run.specs.{declared.run_fault.RunFault.RunFault, Running.IsTest, Running.Posted}
use Rattle.test_run.specs.declared.run_fault.RunFault.TheVariants as fault

-- the cone of a test: exactly the closure of it alone, in suite order
abbrev pub IsCone : List Edge → ℕ → List ℕ → Type 0
IsCone R t l = IsClosure R (t ∷ []) l

-- the units of the tests that end, where the tests of a list are run on one heap up to the first that gives nothing
abbrev pub ended_units_on : Program → World → List ℕ → ℕ
ended_units_on p w [] = 0
ended_units_on p w (t ∷ l) = elim (one_test p w t (test_at p t).budget) [ None ↦ 0 | Some x ↦ x.outcome.units + ended_units_on p x.world l ]

-- the same from the opening world
abbrev pub cone_units : Program → List ℕ → ℕ
cone_units p l = ended_units_on p (opening p) l

-- A piece of test t's cone: its list is the cone, and its outcome what the test gives at the end of it.
pub record IsConeOf (p : Program) (R : List Edge) (t : ℕ) (x : Posted) : Type 0 where
  pub program : x.program ≡ p
  pub cone : IsCone R t x.list
  pub gives : last_outcome p x.list ≡ Some x.outcome

-- the test of a cone gives something at the end of it
pub record GivesCone (p : Program) (R : List Edge) (t : ℕ) : Type 0 where
  pub list : List ℕ
  pub cone : IsCone R t list
  pub outcome : Outcome
  pub gives : last_outcome p list ≡ Some outcome

-- The least test of a set whose cone gives nothing, and u is the test in it that passes its budget.
pub record IsFirstOver (p : Program) (R : List Edge) (S : ℕ → Type 0) (u : ℕ) : Type 0 where
  pub test : ℕ
  pub within : S test
  pub list : List ℕ
  pub cone : IsCone R test list
  pub over : first_over p list ≡ Some u
  pub before : (t : ℕ) → S t → t < test → GivesCone p R t

-- how the cones of a set are refused; or want of memory
abbrev pub IsConeFault : Program → List Edge → (ℕ → Type 0) → RunFault → Type 0
IsConeFault p R S (fault.OverBudget u) = IsFirstOver p R S u
IsConeFault p R S fault.NoMemory = Unit {0}

-- a list for each selected test: its cone
abbrev pub AreCones : List Edge → List ℕ → List (List ℕ) → Type 0
AreCones R sel lists = PairedList (IsCone R) sel lists

-- a piece for each selected test: that of its cone
abbrev pub AreConesOf : Program → List Edge → List ℕ → List Posted → Type 0
AreConesOf p R sel xs = PairedList (IsConeOf p R) sel xs

-- What cones are asked of: edges of a record with as many tests as the typed program has, and tests of it in suite order.
pub record IsConeSuite (p : Program) (R : List Edge) (sel : List ℕ) : Type 0 where
  pub typed : IsTyped p
  pub recorded : GoUp (length p.tests) R
  pub tests : All (IsTest p) sel
  pub ascending : Ascending sel
