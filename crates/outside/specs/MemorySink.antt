-- A sink in memory as callers see it (this project's).
use Rattle.std.specs.Prelude.{ℕ, List}

-- bytes in memory, and for how many more room was reserved
pub record Held : Type 0 where
  pub bytes : List ℕ
  pub room : ℕ

pub record MemorySinkState : Type 0 where
  pub held : List ℕ
  pub room : ℕ
  -- how many bytes a call takes at most
  pub most : ℕ
  -- the numbers of the calls that fail, from 1
  pub fail : List ℕ
  -- how many calls were made
  pub calls : ℕ
  pub faults : ℕ
