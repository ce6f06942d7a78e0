-- Faults of lists of tests, and what finds them.
use Rattle.std.specs.Prelude.{◌≡◌, ◌↔◌, ℕ, ◌<◌, List, Bool, true, false, ◌||◌, nat_eq, get_or}
use Rattle.order_law.specs.{declared.edges.Edge.Edge, declared.edges.EdgeKind.TheVariants.Raw, Conflicts.Member, Conflicts.HasEdge, Conflicts.Before}
use Rattle.order_law.specs.OrderFault as law
use Rattle.dep_graph.specs.{declared.sets.TestSet.TestSet, Sets.holds}
use Rattle.selection_close.specs.declared.faults.OrderFault.{OrderFault, TheVariants.Twice, TheVariants.MissingWriter, TheVariants.Inverted}

-- the fault that is named
abbrev pub fault_of : OrderFault → law.OrderFault
fault_of (Twice t) = law.twice t
fault_of (MissingWriter t u) = law.missing_writer t u
fault_of (Inverted a b) = law.inverted a b

-- the set has the tests of the list, as far as there is room
abbrev pub HoldsList : TestSet → List ℕ → Type 0
HoldsList s l = (u : ℕ) → u < 1088 → (holds s u ≡ true) ↔ Member u l

-- what a set holds with one more test
abbrev pub gained : TestSet → ℕ → ℕ → Bool
gained s t u = nat_eq u t || holds s u

-- the set has each raw writer of the test
abbrev pub HasAll : List Edge → TestSet → ℕ → Type 0
HasAll R s t = (u : ℕ) → HasEdge R Raw u t → holds s u ≡ true

-- the least raw writer of the test that the set lacks
pub record IsLeastOutside (R : List Edge) (s : TestSet) (t u : ℕ) : Type 0 where
  pub edge : HasEdge R Raw u t
  pub outside : holds s u ≡ false
  pub least : (v : ℕ) → v < u → HasEdge R Raw v t → holds s v ≡ true

-- the test at a place is before none at the first n places
abbrev pub IsBeforeNone : List Edge → List ℕ → ℕ → ℕ → Type 0
IsBeforeNone R l place n = (k : ℕ) → k < n → Before R (get_or l place 0) (get_or l k 0) → ⊥

-- the earliest place whose test the one at a later place is before
pub record IsFirstAfter (R : List Edge) (l : List ℕ) (place q : ℕ) : Type 0 where
  pub lower : q < place
  pub before : Before R (get_or l place 0) (get_or l q 0)
  pub earliest : IsBeforeNone R l place q
