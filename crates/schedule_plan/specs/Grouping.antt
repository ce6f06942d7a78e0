-- Labels of the places of a list of tests, and the classes that they make.
use Rattle.std.specs.Prelude.{◌≡◌, ◌↔◌, ℕ, ◌<◌, ◌≤◌, List, length, get_or}
use Rattle.order_law.specs.{declared.edges.Edge.Edge, Conflicts.Member, Conflicts.Before, Conflicts.Joined, Plan.Ascending, Plan.chain_at}

-- the number at a place
abbrev pub at : List ℕ → ℕ → ℕ
at l i = get_or l i 0

-- no place of a list of tests has a later one as its label
abbrev pub NameNoLater : List ℕ → List ℕ → Type 0
NameNoLater tests labels = (i : ℕ) → i < length tests → at labels i ≤ i

-- A label for each place of a list of tests: a place with that label itself. Tests with one label are joined.
pub record AreLabels (R : List Edge) (tests labels : List ℕ) : Type 0 where
  pub many : length labels ≡ length tests
  pub low : NameNoLater tests labels
  pub rooted : (i : ℕ) → i < length tests → at labels (at labels i) ≡ at labels i
  pub sound : (i j : ℕ) → i < length tests → j < length tests → at labels i ≡ at labels j → Joined R (λ t. Member t tests) (at tests i) (at tests j)

-- places that had one label have one
abbrev pub Keeps : List ℕ → List ℕ → Type 0
Keeps old new = (i j : ℕ) → i < length old → j < length old → at old i ≡ at old j → at new i ≡ at new j

-- of the first n places, those whose tests are before the one of this place have its label
abbrev pub IsJoinedTo : List Edge → List ℕ → List ℕ → ℕ → ℕ → Type 0
IsJoinedTo R tests labels place n = (k : ℕ) → k < n → Before R (at tests k) (at tests place) → at labels k ≡ at labels place

-- each of the first n places is joined to the earlier ones
abbrev pub AreJoined : List Edge → List ℕ → List ℕ → ℕ → Type 0
AreJoined R tests labels n = (i : ℕ) → i < n → IsJoinedTo R tests labels i i

-- the tests of the first n places with this label, ascending
pub record IsClassOf (tests labels : List ℕ) (label n : ℕ) (l : List ℕ) : Type 0 where
  pub exact : (t : ℕ) → Member t l ↔ ((i : ℕ) × (i < n) × (at labels i ≡ label) × (at tests i ≡ t))
  pub ascending : Ascending l

-- the classes of the labels below n, by these
pub record AreClasses (tests labels : List ℕ) (n : ℕ) (C : List (List ℕ)) : Type 0 where
  pub roots : List ℕ
  pub many : length roots ≡ length C
  pub exact : (r : ℕ) → Member r roots ↔ ((r < n) × (at labels r ≡ r))
  pub ascending : Ascending roots
  pub each : (c : ℕ) → c < length C → IsClassOf tests labels (at roots c) (length tests) (chain_at C c)
