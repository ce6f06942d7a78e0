-- A depot in memory as callers see it (this project's).
use Rattle.std.specs.Prelude.{ℕ, List, Option}

pub record MemoryDepotState : Type 0 where
  pub files : List (List ℕ × List ℕ)
  -- the numbers of the calls that fail, from 1
  pub fail : List ℕ
  -- how many calls were made
  pub calls : ℕ
  pub faults : ℕ
  -- the name of the last read that failed
  pub last_failed : Option (List ℕ)
