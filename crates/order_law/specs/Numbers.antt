-- A matching of the numbers of two programs, each sort of number by a test.
use Rattle.std.specs.Prelude.{◌≡◌, ℕ, Bool, true, nat_eq}
use Rattle.order_law.specs.Pairing.{Matching}

pub record Numbers : Type 0 where
  pub fields : ℕ → ℕ → Bool
  pub class : ℕ → ℕ → Bool
  pub method : ℕ → ℕ → Bool
  pub literal : ℕ → ℕ → Bool

abbrev pub Tested : (ℕ → ℕ → Bool) → ℕ → ℕ → Type 0
Tested f a b = f a b ≡ true

-- with a relation of the places of objects
abbrev pub with_places : Numbers → (ℕ → ℕ → Type 0) → Matching
with_places n P = record { place = P; fields = Tested n.fields; class = Tested n.class; literal = Tested n.literal }

-- a program with itself
abbrev pub same_numbers : Numbers
same_numbers = record { fields = nat_eq; class = nat_eq; method = nat_eq; literal = nat_eq }
