-- What contracts see of a core, and its events as a legal history.
use Rattle.std.specs.Prelude.{◌≡◌, ◌⊎◌, ℕ, ◌+◌, ◌-◌, ◌<◌, ◌≤◌, List, [], ◌∷◌, ◌++◌, length, get_or, take, fold, sum_by}
use Rattle.jvm_model.specs.declared.{outcome.Outcome.Outcome, program.Program.Program}
use Rattle.order_law.specs.Plan as law
use Rattle.run_core.specs.declared.events.{Event.Event, Event.TheVariants.Claim, Event.TheVariants.Post}

-- the last test of a list, and those before it
abbrev pub last_of : List ℕ → ℕ
last_of l = get_or l (length l - 1) 0

abbrev pub before_last : List ℕ → List ℕ
before_last l = take (length l - 1) l

-- an event as one of a history, which numbers chains from 0
abbrev pub told : Event → law.Event
told (Claim w c) = law.claim w (c - 1)
told (Post q) = law.post q.worker (before_last q.list) (last_of q.list) q.outcome

-- the events, in the order in which they came, as a history, which has its latest event first
abbrev pub history_of : List Event → List law.Event
history_of h = fold (λ es e. told e ∷ es) [] h

-- how many events a history of these chains has at most: a claim of each chain and a post of each test
abbrev pub most_events : List (List ℕ) → ℕ
most_events C = sum_by (λ c. length c + 1) C

-- What contracts see of a core: its program, chains and number of workers, and the events in the order in which they came.
pub record Run : Type 0 where
  pub program : Program
  pub chains : List (List ℕ)
  pub workers : ℕ
  pub events : List Event

abbrev pub history : Run → List law.Event
history r = history_of r.events

abbrev pub added : Run → Event → Run
added r e = record r { events = r.events ++ e ∷ [] }

-- The events are a legal history, and a complete one.
abbrev pub IsLegal : Run → Type 0
IsLegal r = law.Legal r.program r.chains r.workers (history r)

abbrev pub IsComplete : Run → Type 0
IsComplete r = law.IsComplete r.chains (history r)

-- the event may follow those of the run
abbrev pub MayFollow : Run → Event → Type 0
MayFollow r e = law.Meets r.program r.chains r.workers (told e) (history r)

-- worker and chain are among those of the run, and a piece is of its program
abbrev pub IsWorker : Run → ℕ → Type 0
IsWorker r w = (0 < w) × (w ≤ r.workers)

abbrev pub IsInRange : Run → Event → Type 0
IsInRange r (Claim w c) = IsWorker r w × (0 < c) × (c ≤ length r.chains)
IsInRange r (Post q) = IsWorker r q.worker × (q.program ≡ r.program)

-- a post of the test with this outcome is in the history
abbrev pub Gave : List law.Event → ℕ → Outcome → Type 0
Gave [] t o = ⊥
Gave (law.claim w c ∷ es) t o = Gave es t o
Gave (law.post w l u r ∷ es) t o = ((u ≡ t) × (r ≡ o)) ⊎ Gave es t o
