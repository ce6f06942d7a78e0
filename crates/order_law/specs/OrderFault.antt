-- The first reason why a list of tests isn't lawful by the edges of a record (this project's order of reasons).
use Rattle.std.specs.Prelude.{◌≡◌, ◌⊎◌, ℕ, ◌<◌, List, take, slice_get, Some}
use Rattle.order_law.specs.declared.edges.{Edge.Edge, EdgeKind.TheVariants.Raw}
use Rattle.order_law.specs.Conflicts.{Member, HasEdge, Before, Distinct, Lawful}

pub data OrderFault : Type 0 where
  -- a test that stands there twice
  twice : ℕ → OrderFault
  -- a test, and an earlier end of one of its raw edges that isn't in the list
  missing_writer : ℕ → ℕ → OrderFault
  -- a test, and one that stands earlier in the list though the first is before it
  inverted : ℕ → ℕ → OrderFault

-- at the least place whose test stands earlier too
pub record IsTwice (l : List ℕ) (t : ℕ) : Type 0 where
  pub place : ℕ
  pub listed : slice_get l place ≡ Some t
  pub before : Member t (take place l)
  pub least : Distinct (take place l)

-- the raw writers of the test are all listed
abbrev pub HasWriters : List Edge → List ℕ → ℕ → Type 0
HasWriters R l t = (u : ℕ) → HasEdge R Raw u t → Member u l

-- the first listed test with a raw writer outside the list, and its least such writer
pub record IsMissing (R : List Edge) (l : List ℕ) (t u : ℕ) : Type 0 where
  pub place : ℕ
  pub listed : slice_get l place ≡ Some t
  pub edge : HasEdge R Raw u t
  pub outside : Member u l → ⊥
  pub first : (x : ℕ) → Member x (take place l) → HasWriters R l x
  pub least : (v : ℕ) → v < u → HasEdge R Raw v t → Member v l

-- the test at this place is before none that stands earlier
abbrev pub IsInPlace : List Edge → List ℕ → ℕ → Type 0
IsInPlace R l i = (j a b : ℕ) → j < i → slice_get l i ≡ Some a → slice_get l j ≡ Some b → Before R a b → ⊥

-- at the least place whose test is before one that stands earlier, and the earliest such
pub record IsInverted (R : List Edge) (l : List ℕ) (a b : ℕ) : Type 0 where
  pub place : ℕ
  pub earlier : ℕ
  pub listed : slice_get l place ≡ Some a
  pub earlier_listed : slice_get l earlier ≡ Some b
  pub lower : earlier < place
  pub before : Before R a b
  pub least : (i : ℕ) → i < place → IsInPlace R l i
  pub earliest : (j c : ℕ) → j < earlier → slice_get l j ≡ Some c → Before R a c → ⊥

-- The fault is the first one of the list.
pub data IsOrderFault (R : List Edge) (l : List ℕ) : OrderFault → Type 0 where
  is_twice : {t : ℕ} → IsTwice l t → IsOrderFault R l (twice t)
  is_missing : {t u : ℕ} → Distinct l → IsMissing R l t u → IsOrderFault R l (missing_writer t u)
  is_inverted : {a b : ℕ} → Distinct l → ((t : ℕ) → Member t l → HasWriters R l t) → IsInverted R l a b → IsOrderFault R l (inverted a b)

-- A list has a fault exactly where it isn't lawful, and then one.
pub record HasOneFault (R : List Edge) (l : List ℕ) : Type 0 where
  pub either : Lawful R l ⊎ ((x : OrderFault) × IsOrderFault R l x)
  pub unlawful : (x : OrderFault) → IsOrderFault R l x → Lawful R l → ⊥
  pub one : (x y : OrderFault) → IsOrderFault R l x → IsOrderFault R l y → x ≡ y

abbrev pub LawOfFaults : Type 0
LawOfFaults = (R : List Edge) (l : List ℕ) → HasOneFault R l
