-- A real folder as callers see it (this project's).
use Rattle.std.specs.Prelude.{◌≡◌, ℕ, List, [], ◌∷◌, ◌++◌, Option}
use Rattle.outside.specs.{declared.heard.Heard.Heard, Depot.Answer, Depot.has_bytes, Depot.is_absent, Depot.is_longer}
use Rattle.outside.specs.declared.heard.Heard.TheVariants as heard

pub record FolderDepotState : Type 0 where
  -- what its reads answered, in order
  pub answers : List Answer
  -- how often it failed, up to the greatest u64
  pub faults : ℕ
  -- the name of the last read that failed
  pub last_failed : Option (List ℕ)

-- the answer that is kept
abbrev pub answer_of : Heard → Answer
answer_of (heard.Bytes name bytes) = has_bytes name.value bytes.value.items
answer_of (heard.Absent name) = is_absent name.value
answer_of (heard.Longer name limit) = is_longer name.value limit

-- one answer more
abbrev pub Keeps : List Answer → List Answer → Answer → Type 0
Keeps old new answer = new ≡ old ++ answer ∷ []
