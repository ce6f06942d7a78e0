-- The chunks of a region, one after the other.
use Rattle.std.specs.Prelude.{◌≡◌, ◌⊎◌, ◌<◌, ◌≤◌, ◌+◌, ℕ, List, [], ◌∷◌, ◌++◌, get_or, length}

-- how many cells a chunk has
abbrev pub chunk_size : ℕ
chunk_size = 65536

-- each chunk has that many
abbrev pub AreLong : {X : Type 0} → List (List X) → Type 0
AreLong [] = Unit {0}
AreLong (c ∷ cs) = (length c ≡ chunk_size) × AreLong cs

-- the chunks' cells in order
abbrev pub joined : {X : Type 0} → List (List X) → List X
joined [] = []
joined (c ∷ cs) = c ++ joined cs

-- the places from `start` up to but not `end` hold x, and the others what they held
pub record IsFilled {X : Type 0} (old new : List X) (start end : ℕ) (x : X) : Type 0 where
  pub length : length new ≡ length old
  pub inside : (i : ℕ) (d : X) → start ≤ i → i < end → get_or new i d ≡ x
  pub outside : (i : ℕ) (d : X) → (i < start) ⊎ (end ≤ i) → get_or new i d ≡ get_or old i d

-- so many cells of a list, from a place on
pub record IsRun {X : Type 0} (all : List X) (start count : ℕ) (run : List X) : Type 0 where
  pub length : length run ≡ count
  pub cells : (i : ℕ) (d : X) → i < count → get_or run i d ≡ get_or all (start + i) d
