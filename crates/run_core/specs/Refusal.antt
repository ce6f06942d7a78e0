-- Why an event may not follow a history.
use Rattle.std.specs.Prelude.{◌≡◌, ℕ, ◌-◌, ◌<◌, ◌≤◌, List, [], ◌∷◌, ◌++◌, take, slice_get, Result, MatchResult}
use Rattle.order_law.specs.Conflicts.{Member}
use Rattle.order_law.specs.Plan as law
use Rattle.run_core.specs.declared.events.{Event.Event, Event.TheVariants.Claim, Event.TheVariants.Post, Refused.Refused, Rejected.Rejected}
use Rattle.run_core.specs.declared.events.Refused.TheVariants.{InHand, Taken, Idle, NotNext, OtherList}
use Rattle.run_core.specs.Run.{Run, MayFollow, added, history}

-- The worker has a chain in hand, and this is its next test.
pub record HasOpen (C : List (List ℕ)) (es : List law.Event) (w i t : ℕ) : Type 0 where
  pub earlier : List ℕ
  pub claimed : law.claims es w ≡ i ∷ earlier
  pub next : law.NextOf es (law.chain_at C i) t

-- It has none: all tests of its chains are posted.
abbrev pub HasNone : List (List ℕ) → List law.Event → ℕ → Type 0
HasNone C es w = (i t : ℕ) → Member i (law.claims es w) → Member t (law.chain_at C i) → law.Posted es t

-- the list ends with the test
abbrev pub EndsWith : List ℕ → ℕ → Type 0
EndsWith l t = (front : List ℕ) × (l ≡ front ++ (t ∷ []))

-- the first place, from 0, at which two lists differ
abbrev pub DifferFirstAt : List ℕ → List ℕ → ℕ → Type 0
DifferFirstAt xs ys k = (take k xs ≡ take k ys) × (slice_get xs k ≡ slice_get ys k → ⊥)

-- The first reason why an event may not follow a history: each says of those before it that they don't apply.
abbrev pub IsRefused : List (List ℕ) → List law.Event → Event → Refused → Type 0
IsRefused C es (Claim w c) (InHand d) = (0 < d) × (t : ℕ) × HasOpen C es w (d - 1) t
IsRefused C es (Claim w c) (Taken v) = HasNone C es w × Member (c - 1) (law.claims es v)
IsRefused C es (Post q) Idle = HasNone C es q.worker
IsRefused C es (Post q) (NotNext t) = (i : ℕ) × HasOpen C es q.worker i t × (EndsWith q.list t → ⊥)
IsRefused C es (Post q) (OtherList k) = (i t : ℕ) × HasOpen C es q.worker i t × EndsWith q.list t × DifferFirstAt q.list (law.list_of es q.worker t) k
IsRefused C es _ _ = ⊥

-- the chain and the worker that a reason names are there
abbrev pub Names : ℕ → ℕ → Refused → Type 0
Names chains workers (InHand c) = (0 < c) × (c ≤ chains)
Names chains workers (Taken w) = (0 < w) × (w ≤ workers)
Names chains workers _ = Unit {0}

-- What a core answers to an event: it is appended where it may follow, and else handed back with the first reason why not;
-- then nothing changed.
abbrev pub IsStep : Run → Event → Run → Result (Unit {0}) Rejected → Type 0
IsStep r e s answer = MatchResult answer
    (λ _. MayFollow r e × (s ≡ added r e))
    (λ x. IsRefused r.chains (history r) e x.why × (x.event ≡ e) × (s ≡ r))
