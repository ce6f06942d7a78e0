-- What is known of a manifest while it is made.
use Rattle.std.specs.Prelude.{◌≡◌, ℕ, ◌+◌, ◌≤◌, List, [], ◌∷◌, sum_by, Some}
use Rattle.jvm_model.specs.{declared.outcome.Outcome.Outcome, declared.program.Program.Program, Suite.first_over, Suite.last_outcome}
use Rattle.order_law.specs.{declared.edges.Edge.Edge, declared.edges.EdgeKind.TheVariants.Raw, Conflicts.Member, Conflicts.HasEdge, Pairing.PairedList}
use Rattle.dep_graph.specs.Graphs.{AreWriters}
use Rattle.test_run.specs.declared.run_fault.RunFault.{RunFault}
use Rattle.test_run.specs.declared.run_fault.RunFault.TheVariants as fault
use Rattle.cone_run.specs.{declared.marks.Mark.Mark, Cones.IsCone, Cones.GivesCone, Cones.cone_units}
use Rattle.cone_run.specs.Marks.{HasWriter, InRecordOrder, IsEffect, IsMark, Marks, without}

-- the mark of a writer of test t, whose cone this is and which has this outcome at the end of it
pub record IsMarkIn (p : Program) (cone : List ℕ) (o : Outcome) (t u : ℕ) (m : Mark) : Type 0 where
  pub writer : m.writer ≡ u
  pub test : m.test ≡ t
  pub effect : IsEffect o (last_outcome p (without u cone)) m.effect

abbrev pub AreMarksIn : Program → List ℕ → Outcome → ℕ → List ℕ → List Mark → Type 0
AreMarksIn p cone o t us ms = PairedList (IsMarkIn p cone o t) us ms

-- the marks of a test with writers, and what was counted for them
pub record IsMarked (p : Program) (R : List Edge) (t : ℕ) (us : List ℕ) (ms : List Mark) (begun now : ℕ) : Type 0 where
  pub list : List ℕ
  pub cone : IsCone R t list
  pub outcome : Outcome
  pub gives : last_outcome p list ≡ Some outcome
  pub marks : AreMarksIn p list outcome t us ms
  pub sum : now ≡ begun + (cone_units p list + sum_by (λ v. cone_units p (without v list)) us)

-- a test without writers has no marks
abbrev pub IsTestMarked : Program → List Edge → ℕ → List ℕ → List Mark → ℕ → ℕ → Type 0
IsTestMarked p R t [] ms begun now = (ms ≡ []) × (now ≡ begun)
IsTestMarked p R t (u ∷ us) ms begun now = IsMarked p R t (u ∷ us) ms begun now

-- the marks of a test
pub record HasMarks (p : Program) (R : List Edge) (t : ℕ) (ms : List Mark) (begun now : ℕ) : Type 0 where
  pub writers : List ℕ
  pub are : AreWriters R t writers
  pub marked : IsTestMarked p R t writers ms begun now

-- a test with writers whose cone gives nothing
pub record IsTestOver (p : Program) (R : List Edge) (t u : ℕ) : Type 0 where
  pub writer : HasWriter R t
  pub list : List ℕ
  pub cone : IsCone R t list
  pub over : first_over p list ≡ Some u

abbrev pub IsTestFault : Program → List Edge → ℕ → RunFault → Type 0
IsTestFault p R t (fault.OverBudget u) = IsTestOver p R t u
IsTestFault p R t fault.NoMemory = Unit {0}

-- the marks of the first n tests
pub record AreMarksTo (p : Program) (R : List Edge) (n : ℕ) (ms : List Mark) : Type 0 where
  pub each : (m : Mark) → Member m ms → IsMark p R m × (m.test ≤ n)
  pub every : (u t : ℕ) → t ≤ n → HasEdge R Raw u t → Marks ms u t
  pub ordered : InRecordOrder ms
  pub gives : (t : ℕ) → t ≤ n → HasWriter R t → GivesCone p R t
