-- Conflicts, records and lawful lists, over what each test writes (W) and what it has exposed reads of (E). Tests are
-- numbered from 1 (after ElectricTest; the kinds are this project's).
use Rattle.std.specs.Prelude.{◌≡◌, ◌↔◌, ◌⊎◌, ℕ, zero, suc, ◌<◌, ◌≤◌, List, [], ◌∷◌, Bool, true, false, cond, Option, Some, None}
use Rattle.jvm_model.specs.declared.values.Location.{Location}
use Rattle.order_law.specs.declared.edges.{Edge.Edge, EdgeKind.EdgeKind, EdgeKind.TheVariants.Raw, EdgeKind.TheVariants.Waw, EdgeKind.TheVariants.War}

abbrev pub Tests : Type 0
Tests = ℕ → Location → Bool

abbrev pub Member : {A : Type 0} → A → List A → Type 0
Member x [] = ⊥
Member x (y ∷ ys) = (x ≡ y) ⊎ Member x ys

-- no test between u and t writes L
abbrev pub NoneBetween : Tests → ℕ → ℕ → Location → Type 0
NoneBetween W u t L = (x : ℕ) → u < x → x < t → W x L ≡ false

-- The conflict of the kind at L. Raw: u is the last test before t that writes L, and t has an exposed read of it. Waw: both
-- write L, and none between. War: t writes L, u has an exposed read of it and doesn't write it, and none between writes it.
abbrev pub Conflict : Tests → Tests → EdgeKind → ℕ → ℕ → Location → Type 0
Conflict W E Raw u t L = (u < t) × (E t L ≡ true) × (W u L ≡ true) × NoneBetween W u t L
Conflict W E Waw u t L = (u < t) × (W u L ≡ true) × (W t L ≡ true) × NoneBetween W u t L
Conflict W E War u t L = (u < t) × (W t L ≡ true) × (E u L ≡ true) × (W u L ≡ false) × NoneBetween W u t L

-- an edge of this kind between these tests
abbrev pub HasEdge : List Edge → EdgeKind → ℕ → ℕ → Type 0
HasEdge [] k u t = ⊥
HasEdge (e ∷ es) k u t = ((e.kind ≡ k) × (e.earlier ≡ u) × (e.later ≡ t)) ⊎ HasEdge es k u t

-- an edge for each kind and pair of tests with at least one location, and no other
abbrev pub IsRecord : Tests → Tests → ℕ → List Edge → Type 0
IsRecord W E n R = (k : EdgeKind) (u t : ℕ) → HasEdge R k u t ↔ ((0 < u) × (t ≤ n) × (L : Location) × Conflict W E k u t L)

-- u is before t: the transitive closure of all edges
pub data Before (R : List Edge) : ℕ → ℕ → Type 0 where
  edge : (k : EdgeKind) {u t : ℕ} → HasEdge R k u t → Before R u t
  chain : {u v t : ℕ} → Before R u v → Before R v t → Before R u t

abbrev pub Distinct : List ℕ → Type 0
Distinct [] = Unit {0}
Distinct (t ∷ l) = (Member t l → ⊥) × Distinct l

-- no test that stands later in the list is before one that stands earlier
abbrev pub InOrder : List Edge → List ℕ → Type 0
InOrder R [] = Unit {0}
InOrder R (t ∷ l) = ((u : ℕ) → Member u l → Before R u t → ⊥) × InOrder R l

-- A lawful list: its tests differ, it is closed under the earlier ends of raw edges, and it keeps to the order of edges.
pub record Lawful (R : List Edge) (l : List ℕ) : Type 0 where
  pub distinct : Distinct l
  pub closed : (u t : ℕ) → Member t l → HasEdge R Raw u t → Member u l
  pub in_order : InOrder R l

-- a set that holds the earlier ends of its raw edges
abbrev pub ClosedUnderRaw : List Edge → (ℕ → Type 0) → Type 0
ClosedUnderRaw R S = (u t : ℕ) → S t → HasEdge R Raw u t → S u

-- The read-after-write closure of a selection: the least such set.
pub data Closure (R : List Edge) (S : ℕ → Type 0) : ℕ → Type 0 where
  selected : {t : ℕ} → S t → Closure R S t
  source : {u t : ℕ} → Closure R S t → HasEdge R Raw u t → Closure R S u

-- members of a set that chains of `Before`, either way, join within the set
pub data Joined (R : List Edge) (S : ℕ → Type 0) : ℕ → ℕ → Type 0 where
  itself : {t : ℕ} → S t → Joined R S t t
  forth : {t u v : ℕ} → Joined R S t u → S v → Before R u v → Joined R S t v
  back : {t u v : ℕ} → Joined R S t u → S v → Before R v u → Joined R S t v

-- A history has its latest test first. Test t may come after the tests of D.
pub record Fits (R : List Edge) (D : List ℕ) (t : ℕ) : Type 0 where
  pub is_new : Member t D → ⊥
  pub closed : (u : ℕ) → HasEdge R Raw u t → Member u D
  pub in_order : (x : ℕ) → Member x D → Before R t x → ⊥

abbrev pub History : List Edge → List ℕ → Type 0
History R [] = Unit {0}
History R (t ∷ D) = Fits R D t × History R D

-- the tests before t, the latest first
abbrev pub down : ℕ → List ℕ
down zero = []
down (suc zero) = []
down (suc (suc t)) = suc t ∷ down (suc t)

-- the last writer of L in a history
abbrev pub last : Tests → List ℕ → Location → Option ℕ
last W [] L = None
last W (t ∷ D) L = cond (W t L) (Some t) (last W D L)
