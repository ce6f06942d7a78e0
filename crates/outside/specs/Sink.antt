-- What a sink took, its room for more, and how often it failed (this project's).
use Rattle.std.specs.Prelude.{◌≡◌, ℕ, ◌-◌, ◌≤◌, List, ◌++◌, Option, Some, None, option_map}

pub record SinkView : Type 0 where
  -- the bytes taken so far, where they are told
  pub told : Option (List ℕ)
  -- for how many bytes there is room, where that is told
  pub room : Option ℕ
  -- how often the sink failed, up to the greatest u64
  pub faults : ℕ

-- the bytes taken after these, where they are told
unfoldable pub appended : Option (List ℕ) → List ℕ → Option (List ℕ)
appended told piece = option_map (λ bytes. bytes ++ piece) told

-- the room that is left after n bytes, where it is told
unfoldable pub lowered : Option ℕ → ℕ → Option ℕ
lowered room n = option_map (λ left. left - n) room

-- a prefix of a text was taken, from old to new
pub record TookPrefix (old new : SinkView) (text : List ℕ) : Type 0 where
  pub front : List ℕ
  pub back : List ℕ
  pub parts : text ≡ front ++ back
  pub taken : new.told ≡ appended old.told front

-- a room is told, and n bytes fit into it
unfoldable pub HasRoom : Option ℕ → ℕ → Type 0
HasRoom None n = ⊥
HasRoom (Some left) n = n ≤ left
