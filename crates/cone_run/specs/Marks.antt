-- What becomes of a test when one of its raw writers is left out of its cone (this project's).
use Rattle.std.specs.Prelude.{◌≡◌, ◌⊎◌, ℕ, zero, suc, ◌+◌, ◌<◌, List, [], ◌∷◌, length, filter, sum_by, not, nat_eq, Option, Some, None}
use Rattle.jvm_model.specs.{declared.outcome.Outcome.Outcome, declared.program.Program.Program, Suite.last_outcome}
use Rattle.order_law.specs.{declared.edges.Edge.Edge, declared.edges.EdgeKind.TheVariants.Raw, Conflicts.Member, Conflicts.HasEdge}
use Rattle.dep_graph.specs.Graphs.{AreWriters}
use Rattle.cone_run.specs.declared.marks.{Effect.Effect, Effect.TheVariants.Same, Effect.TheVariants.Changed, Effect.TheVariants.Over, Mark.Mark}
use Rattle.cone_run.specs.Cones.{IsCone, cone_units}

-- a list without a test
abbrev pub without : ℕ → List ℕ → List ℕ
without u l = filter (λ t. not (nat_eq t u)) l

-- the same verdict, with class and message in it, and the same output
pub record HasSameReport (x y : Outcome) : Type 0 where
  pub verdict : x.verdict ≡ y.verdict
  pub output : x.output ≡ y.output

-- The effect on a test with this outcome, where it then gives that one; none where some test passes its budget.
abbrev pub IsEffect : Outcome → Option Outcome → Effect → Type 0
IsEffect x None Over = Unit {0}
IsEffect x None _ = ⊥
IsEffect x (Some y) Same = HasSameReport x y
IsEffect x (Some y) Changed = HasSameReport x y → ⊥
IsEffect x (Some y) Over = ⊥

-- The mark of a raw edge: what its test gives after its cone, and after the cone without the writer.
pub record IsMark (p : Program) (R : List Edge) (m : Mark) : Type 0 where
  pub edge : HasEdge R Raw m.writer m.test
  pub list : List ℕ
  pub cone : IsCone R m.test list
  pub outcome : Outcome
  pub gives : last_outcome p list ≡ Some outcome
  pub effect : IsEffect outcome (last_outcome p (without m.writer list)) m.effect

-- by the later test, and then the earlier one
abbrev pub IsBefore : Mark → Mark → Type 0
IsBefore m n = (m.test < n.test) ⊎ ((m.test ≡ n.test) × (m.writer < n.writer))

abbrev pub InRecordOrder : List Mark → Type 0
InRecordOrder [] = Unit {0}
InRecordOrder (m ∷ ms) = ((n : Mark) → Member n ms → IsBefore m n) × InRecordOrder ms

-- the writer and the test of a mark
abbrev pub Marks : List Mark → ℕ → ℕ → Type 0
Marks ms u t = (m : Mark) × Member m ms × (m.writer ≡ u) × (m.test ≡ t)

-- a mark of each raw edge, and no other, in the order of a record
pub record AreMarks (p : Program) (R : List Edge) (ms : List Mark) : Type 0 where
  pub each : (m : Mark) → Member m ms → IsMark p R m
  pub every : (u t : ℕ) → HasEdge R Raw u t → Marks ms u t
  pub ordered : InRecordOrder ms

-- the units of what is run for test t with these raw writers: its cone, and the cone without each of them
abbrev pub IsTestSum : Program → List Edge → ℕ → List ℕ → ℕ → Type 0
IsTestSum p R t [] units = units ≡ 0
IsTestSum p R t (u ∷ us) units = (list : List ℕ) × IsCone R t list × (units ≡ cone_units p list + sum_by (λ v. cone_units p (without v list)) (u ∷ us))

pub record AreTestUnits (p : Program) (R : List Edge) (t units : ℕ) : Type 0 where
  pub writers : List ℕ
  pub are : AreWriters R t writers
  pub sum : IsTestSum p R t writers units

-- the units of what is run for the first n tests
abbrev pub AreUnits : Program → List Edge → ℕ → ℕ → Type 0
AreUnits p R zero units = units ≡ 0
AreUnits p R (suc n) units = (before : ℕ) × (own : ℕ) × AreUnits p R n before × AreTestUnits p R (suc n) own × (units ≡ before + own)

-- so many units were counted for the manifest of a record of the program
pub record HasSpent (p : Program) (R : List Edge) (begun now : ℕ) : Type 0 where
  pub units : ℕ
  pub are : AreUnits p R (length p.tests) units
  pub counts : now ≡ begun + units

-- a test that some raw edge leads to
abbrev pub HasWriter : List Edge → ℕ → Type 0
HasWriter R t = (u : ℕ) × HasEdge R Raw u t
