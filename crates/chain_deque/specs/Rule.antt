-- What is kept of a queue of chains: the chains in it are those that were pushed without the first k, and the positions that
-- the passes took are those below k, each once.
use Rattle.std.specs.Prelude.{◌≡◌, ℕ, suc, ◌+◌, ◌-◌, ◌<◌, ◌≤◌, Bool, true, false, cond, ◌==◌, nat_lt, List, [], ◌∷◌, ◌++◌, length, drop, take, All, count_by, sum_by}
use mathlib.Core.Option.{some}
use lib.ListN.{get_elem?}
use Rattle.chain_deque.specs.declared.rule.{Chain.Chain, Seen.Seen}

abbrev pub seen : Bool → Bool → ℕ → ℕ → List Chain → List ℕ → Seen
seen owns live made out pushed took = record { owns = owns; live = live; made = made; out = out; pushed = pushed; took = took }

-- how often x stands in the list
abbrev pub times : ℕ → List ℕ → ℕ
times x xs = count_by (λ y. y == x) xs

-- 1 for each position below k, and 0 for the others
abbrev pub once_below : ℕ → ℕ → ℕ
once_below k x = cond (nat_lt x k) 1 0

-- how many of the passes take part
abbrev pub live_count : List Seen → ℕ
live_count views = count_by (λ (v : Seen). v.live) views

-- how often the passes took position x
abbrev pub times_taken : ℕ → List Seen → ℕ
times_taken x views = sum_by (λ (v : Seen). times x v.took) views

-- The pass at this port fits what was pushed, and how many thieves were made and are out: the owner's, which is at port 0, knows
-- all three; each that takes part knows the pushed list; one that doesn't has no positions.
abbrev pub Fits : List Chain → ℕ → ℕ → ℕ → Seen → Type 0
Fits pushed made out port v =
    (v.owns ≡ true → (port ≡ 0) × (v.made ≡ made) × (v.out ≡ out))
    × (v.live ≡ true → v.pushed ≡ pushed)
    × (v.live ≡ false → v.took ≡ [])

-- the rule: what there is, and that each pass's view fits it
pub record Kept (items : List Chain) (views : List Seen) : Type 0 where
  pub pushed : List Chain
  pub made : ℕ
  pub out : ℕ
  -- how many chains were taken
  pub gone : ℕ
  pub queue : items ≡ drop gone pushed
  pub few : gone ≤ length pushed
  pub passes : length views ≡ suc made
  pub lives : live_count views ≡ suc out
  pub taken : (x : ℕ) → times_taken x views ≡ once_below gone x
  pub each : (port : ℕ) (v : Seen) → get_elem? views port ≡ some v → Fits pushed made out port v

-- more chains at the end
abbrev pub pushed_more : Seen → List Chain → Seen
pushed_more v xs = seen v.owns v.live v.made v.out (v.pushed ++ xs) v.took

-- one position more
abbrev pub took_more : Seen → ℕ → Seen
took_more v k = seen v.owns v.live v.made v.out v.pushed (v.took ++ k ∷ [])

-- one position was taken, above all that this pass took before, and xs is the chain that was pushed there
pub record TookOne (v : Seen) (xs : List Chain) (w : Seen) : Type 0 where
  pub position : ℕ
  pub view_is : w ≡ took_more v position
  pub above : All (λ x. x < position) v.took
  pub there : xs ≡ take 1 (drop position v.pushed)

-- each position of the pushed list was taken once by this pass, and no other
abbrev pub HasAll : Seen → Type 0
HasAll v = (x : ℕ) → times x v.took ≡ once_below (length v.pushed) x

-- what the owner knows where it found the queue empty and no thief is out
abbrev pub Emptied : Seen → Type 0
Emptied v = v.owns ≡ true → v.live ≡ true → v.out ≡ 0 → HasAll v

-- what is left is the pushed list without its first k, and the positions that were taken are those below k
pub record AllHere (v : Seen) (items : List Chain) : Type 0 where
  pub gone : ℕ
  pub left : items ≡ drop gone v.pushed
  pub taken : v.out ≡ 0 → (x : ℕ) → times x v.took ≡ once_below gone x

-- the owner after it made a thief, and the thief
abbrev pub lent : Seen → Seen
lent v = seen true true (v.made + 1) (v.out + 1) v.pushed v.took

abbrev pub thief_of : Seen → Seen
thief_of v = seen false true 0 0 v.pushed []

-- the owner after it took a thief back, and that thief's pass
abbrev pub joined : Seen → Seen → Seen
joined v u = seen true true v.made (v.out - 1) v.pushed (v.took ++ u.took)

abbrev pub spent : Seen
spent = seen false false 0 0 [] []
