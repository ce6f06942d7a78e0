-- Plans: which worker runs which chains. Workers and chains are numbered from 0 by their places.
use Rattle.std.specs.Prelude.{◌≡◌, ◌↔◌, ◌⊎◌, ℕ, ◌+◌, ◌-◌, ◌*◌, ◌<◌, ◌≤◌, List, [], ◌∷◌, ◌++◌, length, get_or, slice_set, take, map, sum, sum_by, Bool, true, ◌&&◌, ◌||◌, cond, nat_eq, nat_lt}
use Rattle.order_law.specs.{Conflicts.Member, Conflicts.Distinct, Plan.chain_at}
use Rattle.schedule_plan.specs.{declared.shares.Share.Share, Grouping.at}

-- there is an entry of units for each test
abbrev pub HasUnits : List ℕ → List ℕ → Type 0
HasUnits l units = (t : ℕ) → Member t l → (0 < t) × (t ≤ length units)

abbrev pub HaveUnits : List (List ℕ) → List ℕ → Type 0
HaveUnits C units = (i : ℕ) → HasUnits (chain_at C i) units

-- the units of some tests
abbrev pub units_of : List ℕ → List ℕ → ℕ
units_of units l = sum_by (λ t. at units (t - 1)) l

-- the units of each chain
abbrev pub chain_units : List (List ℕ) → List ℕ → List ℕ
chain_units C units = map (λ l. units_of units l) C

-- whether a chain is given before another: it has more units, or as many and the lower number
abbrev pub is_earlier : List ℕ → ℕ → ℕ → Bool
is_earlier sizes c d = nat_lt (at sizes d) (at sizes c) || (nat_eq (at sizes c) (at sizes d) && nat_lt c d)

-- each chain is given before those behind it
abbrev pub Falling : List ℕ → List ℕ → Type 0
Falling sizes [] = Unit {0}
Falling sizes (c ∷ l) = ((d : ℕ) → Member d l → is_earlier sizes c d ≡ true) × Falling sizes l

abbrev pub no_share : Share
no_share = record { chains = []; load = 0 }

abbrev pub share_at : List Share → ℕ → Share
share_at W w = get_or W w no_share

abbrev pub chains_at : List Share → ℕ → List ℕ
chains_at W w = (share_at W w).chains

abbrev pub load_at : List Share → ℕ → ℕ
load_at W w = (share_at W w).load

-- the units that a worker has when this chain is given: those of its chains that are given before
abbrev pub load_before : List ℕ → List Share → ℕ → ℕ → ℕ
load_before sizes W w c = sum_by (λ d. cond (is_earlier sizes d c) (at sizes d) 0) (chains_at W w)

-- the lesser load, or the same and the lower worker
abbrev pub IsLighter : ℕ → ℕ → ℕ → ℕ → Type 0
IsLighter a w b v = (a < b) ⊎ ((a ≡ b) × (w ≤ v))

-- each of so many chains is in exactly one share, there once, and nothing else is
pub record AreDealt (chains : ℕ) (W : List Share) : Type 0 where
  pub within : (w c : ℕ) → Member c (chains_at W w) → c < chains
  pub covered : (c : ℕ) → c < chains → (w : ℕ) × (w < length W) × Member c (chains_at W w)
  pub apart : (w v c : ℕ) → Member c (chains_at W w) → Member c (chains_at W v) → w ≡ v
  pub once : (w : ℕ) → Distinct (chains_at W w)

-- The plan of chains of these units for n workers: chains by falling units, ties by the lower number; each goes to the
-- worker of least load, ties by the lower worker.
pub record IsPlanOf (sizes : List ℕ) (n : ℕ) (W : List Share) : Type 0 where
  pub workers : length W ≡ n
  pub dealt : AreDealt (length sizes) W
  pub falling : (w : ℕ) → Falling sizes (chains_at W w)
  pub load : (w : ℕ) → load_at W w ≡ sum_by (λ c. at sizes c) (chains_at W w)
  pub least : (w v c : ℕ) → v < n → Member c (chains_at W w) → IsLighter (load_before sizes W w c) w (load_before sizes W v c) v

-- there is one plan of these chains
abbrev pub LawOfPlans : Type 0
LawOfPlans = (sizes : List ℕ) (n : ℕ) (V W : List Share) → IsPlanOf sizes n V → IsPlanOf sizes n W → V ≡ W

-- n times each load is at most all units and n times those of the largest chain
abbrev pub AreBalanced : List ℕ → ℕ → List Share → Type 0
AreBalanced sizes n W = (most : ℕ) → ((c : ℕ) → c < length sizes → at sizes c ≤ most) → (w : ℕ) → n * load_at W w ≤ sum sizes + n * most

-- ---- of the code's functions
-- the first n chains in the order in which they are given
pub record IsOrderOf (sizes : List ℕ) (n : ℕ) (o : List ℕ) : Type 0 where
  pub exact : (c : ℕ) → Member c o ↔ (c < n)
  pub falling : Falling sizes o
  pub total : sum_by (λ c. at sizes c) o ≡ sum (take n sizes)

-- the first place of a chain with less units, or the end
pub record IsFirstSmaller (sizes o : List ℕ) (size p : ℕ) : Type 0 where
  pub within : p ≤ length o
  pub before : (k : ℕ) → k < p → size ≤ at sizes (at o k)
  pub smaller : p < length o → at sizes (at o p) < size

abbrev pub loads_of : List Share → ℕ
loads_of W = sum_by (λ s. s.load) W

-- the first of the first n shares with the least load of these
pub record IsLeastLoaded (W : List Share) (n w : ℕ) : Type 0 where
  pub within : w < n
  pub lower : (v : ℕ) → v < w → load_at W w < load_at W v
  pub upper : (v : ℕ) → w ≤ v → v < n → load_at W w ≤ load_at W v

abbrev pub with_chain : Share → ℕ → ℕ → Share
with_chain s c units = record { chains = s.chains ++ (c ∷ []); load = s.load + units }

-- the chain is given to the first worker of least load
pub record IsGiven (W : List Share) (c units : ℕ) (N : List Share) : Type 0 where
  pub worker : ℕ
  pub least : IsLeastLoaded W (length W) worker
  pub after : N ≡ slice_set W worker (with_chain (share_at W worker) c units)

-- The chains of a list are given, in its order.
pub record ArePlaced (sizes o : List ℕ) (n : ℕ) (W : List Share) : Type 0 where
  pub workers : length W ≡ n
  pub exact : (c : ℕ) → Member c o ↔ ((w : ℕ) × (w < length W) × Member c (chains_at W w))
  pub apart : (w v c : ℕ) → Member c (chains_at W w) → Member c (chains_at W v) → w ≡ v
  pub falling : (w : ℕ) → Falling sizes (chains_at W w)
  pub load : (w : ℕ) → load_at W w ≡ sum_by (λ c. at sizes c) (chains_at W w)
  pub least : (w v c : ℕ) → v < n → Member c (chains_at W w) → IsLighter (load_before sizes W w c) w (load_before sizes W v c) v
  pub total : loads_of W ≡ sum_by (λ c. at sizes c) o
  pub balanced : (most : ℕ) → ((c : ℕ) → Member c o → at sizes c ≤ most) → (w : ℕ) → n * load_at W w ≤ sum_by (λ c. at sizes c) o + n * most
