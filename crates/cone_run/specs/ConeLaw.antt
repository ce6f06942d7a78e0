-- A cone is lawful, and by the suite's own record its test has there the outcome of the suite's order.
use Rattle.std.specs.Prelude.{◌≡◌, ℕ, List, [], ◌∷◌, ◌++◌, true, None}
use Rattle.jvm_model.specs.{declared.program.Program.Program, Linked.Linked, Suite.is_detected, Suite.first_over, Suite.last_outcome, Suite.seq}
use Rattle.order_law.specs.{declared.edges.Edge.Edge, Conflicts.Lawful, Histories.IsTestNumber, OwnRecord.edges_of}
use Rattle.dep_graph.specs.Graphs.{GoUp}
use Rattle.cone_run.specs.Cones.{IsCone}

-- a lawful list that ends with this test
pub record EndsLawful (R : List Edge) (t : ℕ) (l : List ℕ) : Type 0 where
  pub lawful : Lawful R l
  pub before : List ℕ
  pub ends : l ≡ before ++ (t ∷ [])

-- Of whatever edges that lead to later tests: a cone is lawful by them, and its test stands last.
abbrev pub ConeLaw : Type 0
ConeLaw = (R : List Edge) (n t : ℕ) (l : List ℕ) → GoUp n R → IsCone R t l → EndsLawful R t l

-- By the edges of a detected suite's own record, no test of a cone passes its budget, and the last one has the outcome that it
-- has when the whole suite is run in order.
abbrev pub OwnConeLaw : Type 0
OwnConeLaw = (p : Program) (t : ℕ) (l : List ℕ) → Linked p → is_detected p ≡ true → IsTestNumber p t → IsCone (edges_of p) t l →
    (first_over p l ≡ None) × (last_outcome p l ≡ seq p t)
