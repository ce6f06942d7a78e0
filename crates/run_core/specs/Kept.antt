-- What a core keeps of its tables.
use Rattle.std.specs.Prelude.{◌≡◌, ◌⊎◌, ℕ, suc, ◌+◌, ◌-◌, ◌^◌, ◌<◌, ◌≤◌, List, [], ◌∷◌, ◌++◌, length, get_or, take, drop, set, fold, reverse, cond, nat_eq, sum_by, true, Option, Some, None}
use Rattle.jvm_model.specs.declared.{outcome.Outcome.Outcome, program.Program.Program}
use Rattle.order_law.specs.{Conflicts.Member, RecordForm.are_chains}
use Rattle.order_law.specs.Plan as law
use Rattle.run_core.specs.declared.{events.Event.Event, events.Event.TheVariants.Claim, events.Event.TheVariants.Post, tables.Open.Open, tables.Row.Row}
use Rattle.run_core.specs.Run.{before_last, last_of, history_of, most_events}

abbrev pub row : ℕ → ℕ → ℕ → Row
row by done size = record { by = by; done = done; size = size }

-- rows by their chains from 0, hands by their workers from 1
abbrev pub row_at : List Row → ℕ → Row
row_at rows i = get_or rows i (row 0 0 0)

abbrev pub hand_of : List ℕ → ℕ → ℕ
hand_of hands w = get_or hands (w - 1) 0

-- a worker's last chain, numbered from 1; 0 where it claimed none
abbrev pub in_hand : List ℕ → ℕ
in_hand [] = 0
in_hand (i ∷ earlier) = suc i

-- who claimed the chain; 0 where nobody did
abbrev pub IsClaimer : List law.Event → ℕ → ℕ → Type 0
IsClaimer es i v = ((v ≡ 0) × ((u : ℕ) → Member i (law.claims es u) → ⊥)) ⊎ ((0 < v) × Member i (law.claims es v))

-- the first d tests of a chain are those of it that are posted
pub record IsDone (es : List law.Event) (chain : List ℕ) (d : ℕ) : Type 0 where
  pub few : d ≤ length chain
  pub posted : (t : ℕ) → Member t (take d chain) → law.Posted es t
  pub others : (t : ℕ) → Member t (drop d chain) → law.Posted es t → ⊥

-- a row for each chain and a hand for each worker
pub record AreTables (C : List (List ℕ)) (n : ℕ) (es : List law.Event) (rows : List Row) (hands : List ℕ) : Type 0 where
  pub many : length rows ≡ length C
  pub workers : length hands ≡ n
  pub hand : (w : ℕ) → 0 < w → w ≤ n → hand_of hands w ≡ in_hand (law.claims es w)
  pub by : (i : ℕ) → i < length C → IsClaimer es i (row_at rows i).by
  pub size : (i : ℕ) → i < length C → (row_at rows i).size ≡ length (law.chain_at C i)
  pub done : (i : ℕ) → i < length C → IsDone es (law.chain_at C i) (row_at rows i).done

-- the list of the worker's last post
abbrev pub list_or : ℕ → List ℕ → Event → List ℕ
list_or w l (Claim v c) = l
list_or w l (Post q) = cond (nat_eq q.worker w) q.list l

abbrev pub last_list : ℕ → List Event → List ℕ
last_list w h = fold (list_or w) [] h

-- the outcome of the last post of the test
abbrev pub outcome_or : ℕ → Option Outcome → Event → Option Outcome
outcome_or t o (Claim v c) = o
outcome_or t o (Post q) = cond (nat_eq (last_of q.list) t) (Some q.outcome) o

abbrev pub found_outcome : ℕ → List Event → Option Outcome
found_outcome t h = fold (outcome_or t) None h

-- a list that ends with a test, split before it
abbrev pub IsSplit : Event → Type 0
IsSplit (Claim w c) = Unit {0}
IsSplit (Post q) = q.list ≡ before_last q.list ++ (last_of q.list ∷ [])

-- each row has all its tests
abbrev pub AreDone : List Row → Type 0
AreDone rows = (i : ℕ) → i < length rows → (row_at rows i).done ≡ (row_at rows i).size

-- of the chain in hand, where there is one, all tests are posted; or this is the next
abbrev pub IsFull : List (List ℕ) → List Row → ℕ → Type 0
IsFull C rows h = 0 < h → length (law.chain_at C (h - 1)) ≤ (row_at rows (h - 1)).done

abbrev pub IsHeld : List (List ℕ) → List Row → ℕ → Open → Type 0
IsHeld C rows h x = (x.chain ≡ h) × (0 < h) × ((row_at rows (h - 1)).done < length (law.chain_at C (h - 1))) × (x.test ≡ get_or (law.chain_at C (h - 1)) (row_at rows (h - 1)).done 0)

-- the events that may still come of a chain
abbrev pub owed : Row → ℕ
owed r = cond (nat_eq r.by 0) 1 0 + (r.size - r.done)

-- What the type of a core keeps: its history is legal, the tables are of it, a worker's last list is what it posted, and the
-- events that came and those still to come are as many as a history has at most, for which there is room.
pub record IsKept (p : Program) (C : List (List ℕ)) (n : ℕ) (rows : List Row) (hands : List ℕ) (h : List Event) (capacity : ℕ) : Type 0 where
  pub form : are_chains C ≡ true
  pub legal : law.Legal p C n (history_of h)
  pub tables : AreTables C n (history_of h) rows hands
  pub lists : (w : ℕ) → last_list w h ≡ reverse (law.posts (history_of h) w)
  pub few : most_events C < 2 ^ 32
  pub left : length h + sum_by owed rows ≡ most_events C
  pub room : most_events C ≤ capacity

-- the tables after an event
abbrev pub claimed : Row → ℕ → Row
claimed r w = row w r.done r.size

abbrev pub posted : Row → Row
posted r = row r.by (r.done + 1) r.size

abbrev pub rows_after : List Row → List ℕ → Event → List Row
rows_after rows hands (Claim w c) = set rows (c - 1) (claimed (row_at rows (c - 1)) w)
rows_after rows hands (Post q) = set rows (hand_of hands q.worker - 1) (posted (row_at rows (hand_of hands q.worker - 1)))

abbrev pub hands_after : List ℕ → Event → List ℕ
hands_after hands (Claim w c) = set hands (w - 1) c
hands_after hands (Post q) = hands

-- the event names places that the tables have, and a chain with a test to come
abbrev pub MayEnter : List Row → List ℕ → Event → Type 0
MayEnter rows hands (Claim w c) = (0 < w) × (w ≤ length hands) × (0 < c) × (c ≤ length rows)
MayEnter rows hands (Post q) = (0 < q.worker) × (q.worker ≤ length hands) × (0 < hand_of hands q.worker) × (hand_of hands q.worker ≤ length rows)
    × ((row_at rows (hand_of hands q.worker - 1)).done < (row_at rows (hand_of hands q.worker - 1)).size)
