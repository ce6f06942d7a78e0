-- The text of a run's history (this project's).
use Rattle.std.specs.Prelude.{ℕ, ◌+◌, List, [], ◌∷◌, ◌++◌, codes, decimal, reverse}
use Rattle.std.specs.List.{flat_map}
use Rattle.order_law.specs.Plan.{Event, claim, post}

-- `claim W C`, the chain numbered from 1, or `post W I`
abbrev pub event_line : Event → List ℕ
event_line (claim w c) = codes "claim " ++ (decimal w ++ (32 ∷ (decimal (c + 1) ++ (10 ∷ []))))
event_line (post w l t o) = codes "post " ++ (decimal w ++ (32 ∷ (decimal t ++ (10 ∷ []))))

-- the events in the order in which they came; a history has its latest event first
unfoldable pub log_text : List Event → List ℕ
log_text es = codes "log" ++ (10 ∷ (flat_map event_line (reverse es) ++ (codes "end" ++ (10 ∷ []))))
