-- A sink in memory that fails only where its room ends, as callers see it (this project's).
use Rattle.std.specs.Prelude.{ℕ, List}

pub record QuietSinkState : Type 0 where
  pub held : List ℕ
  pub room : ℕ
  -- how many bytes a call takes at most
  pub most : ℕ
  pub faults : ℕ
