-- What a graph keeps of the edges of a record.
use Rattle.std.specs.Prelude.{◌≡◌, ◌↔◌, ℕ, ◌+◌, ◌<◌, ◌≤◌, List, [], take, drop, get_or, length, Bool, true}
use Rattle.order_law.specs.declared.edges.{Edge.Edge, EdgeKind.EdgeKind, EdgeKind.TheVariants.Raw}
use Rattle.order_law.specs.{Conflicts.Member, Conflicts.HasEdge, Conflicts.Before, Plan.Ascending}
use Rattle.dep_graph.specs.{declared.sets.TestSet.TestSet, Sets.holds}

-- each edge leads to a later test, and no test has a number above n
abbrev pub GoUp : ℕ → List Edge → Type 0
GoUp n R = (k : EdgeKind) (u t : ℕ) → HasEdge R k u t → (0 < u) × (u < t) × (t ≤ n)

-- The edges of a record of n tests, as they stand there: by later tests, and those of one kind to one test by earlier ones.
pub record AreOrdered (n : ℕ) (R : List Edge) : Type 0 where
  pub go_up : GoUp n R
  pub later : (i : ℕ) (j k : EdgeKind) (u t v x : ℕ) → HasEdge (take i R) j u t → HasEdge (drop i R) k v x → t ≤ x
  pub earlier : (i : ℕ) (k : EdgeKind) (u t v : ℕ) → HasEdge (take i R) k u t → HasEdge (drop i R) k v t → u < v

-- exactly the raw writers of a test, ascending
pub record AreWriters (R : List Edge) (t : ℕ) (l : List ℕ) : Type 0 where
  pub exact : (u : ℕ) → Member u l ↔ HasEdge R Raw u t
  pub ascending : Ascending l

-- the raw writers of each test, in a list for each number up to n
pub record AreSources (n : ℕ) (R : List Edge) (lists : List (List ℕ)) : Type 0 where
  pub many : length lists ≡ n
  pub each : (t : ℕ) → t < n → AreWriters R t (get_or lists t [])

-- a set that holds no test
abbrev pub nothing : TestSet
nothing = record { words = [] }

-- whether the row of t has u
abbrev pub has_row : List TestSet → ℕ → ℕ → Bool
has_row rows u t = holds (get_or rows t nothing) u

-- a row of each number up to n: of the tests that are before it
pub record AreRows (n : ℕ) (R : List Edge) (rows : List TestSet) : Type 0 where
  pub many : length rows ≡ n
  pub exact : (u t : ℕ) → (has_row rows u t ≡ true) ↔ Before R u t

-- What a graph keeps, of some number of tests.
pub record IsKept (R : List Edge) (rows : List TestSet) (sources : List (List ℕ)) : Type 0 where
  pub tests : ℕ
  pub few : tests ≤ 1024
  pub go_up : GoUp tests R
  pub rows_are : AreRows (tests + 1) R rows
  pub sources_are : AreSources (tests + 1) R sources
