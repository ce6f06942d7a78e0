-- Cases of a test, and what a test says.
use Rattle.std.proofs.Common.{◌≡◌, ℕ, Bool, true, false, not, ◌||◌, List, [], ◌∷◌, Option, Some, None, refl}
use Rattle.et_base.specs.Names.{ends}

pub by_test : {X : Type 0} (b : Bool) → (b ≡ true → X) → (b ≡ false → X) → X
by_test true first second = first refl
by_test false first second = second refl

-- a test that is asked where another says yes
pub implied : (a b : Bool) → (not a || b) ≡ true → a ≡ true → b ≡ true
implied true b h e = h
implied false b h e = absurd cc

-- nothing is left of what was read
pub ends_some : (o : Option (List ℕ)) → ends o ≡ true → o ≡ Some []
ends_some None h = absurd cc
ends_some (Some []) h = refl
ends_some (Some (u ∷ us)) h = absurd cc
