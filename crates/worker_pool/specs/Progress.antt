-- How the caller's run of what is left goes on: each round adds an event.
use Rattle.std.specs.Prelude.{◌≡◌, ℕ, ◌∷◌, ◌++◌, [], reverse, Bool, true, false}
use Rattle.order_law.specs.Plan.{posts}
use Rattle.run_core.specs.{declared.events.Event.Event, Refusal.HasNone, Run.Run, Run.IsWorker, Run.added, Run.history}
use Rattle.test_run.specs.Running.{Posted}

-- the run with one event more
abbrev pub IsOneMore : Run → Run → Type 0
IsOneMore r s = (e : Event) × (s ≡ added r e)

-- no worker has a chain in hand
abbrev pub AllHaveNone : Run → Type 0
AllHaveNone r = (w : ℕ) → IsWorker r w → HasNone r.chains (history r) w

-- what a worker posts with this test: a piece of the run's program whose list is its posts and then the test
abbrev pub IsNextPost : Run → ℕ → ℕ → Posted → Type 0
IsNextPost r w t q = (q.worker ≡ w) × (q.program ≡ r.program) × (q.list ≡ reverse (posts (history r) w) ++ (t ∷ []))

-- a post is added, or the worker has no chain in hand and nothing changed
abbrev pub MayPost : Run → Run → ℕ → Bool → Type 0
MayPost r s w true = IsOneMore r s
MayPost r s w false = (s ≡ r) × HasNone r.chains (history r) w
