-- Classes of a suite, by marks and as a list.
use Rattle.std.specs.Prelude.{◌≡◌, ◌≤◌, ◌<◌, ◌^◌, ℕ, List, Bool, true, false, ◌&&◌, length, get_or, nat_eq, nat_lt, nat_le}
use Rattle.std.specs.List.{list_any}
use Rattle.jvm_model.specs.Builtin.{builtin_count}

-- whether it is the number of a class that isn't built in, of a program with so many classes
abbrev pub is_given : ℕ → ℕ → Bool
is_given n c = nat_le builtin_count c && nat_lt c n

-- the classes that are marked are these, and none is built in
pub record AreReached (marks : List Bool) (classes : List ℕ) : Type 0 where
  pub few : length marks < 2 ^ 32
  pub given : (c : ℕ) → get_or marks c false ≡ true → builtin_count ≤ c
  pub listed : (c : ℕ) → list_any (nat_eq c) classes ≡ get_or marks c false
