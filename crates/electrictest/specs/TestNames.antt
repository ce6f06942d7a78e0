-- The names and units of tests.
use Rattle.std.specs.Prelude.{ℕ, ◌+◌, ◌-◌, List, [], ◌∷◌, get_or}
use Rattle.jvm_model.specs.declared.{outcome.Outcome.Outcome, program.Names.Names}

-- the name of a test
abbrev pub test_name : Names → ℕ → List ℕ
test_name names t = get_or names.tests (t - 1) []

abbrev pub units_in : List Outcome → ℕ
units_in [] = 0
units_in (o ∷ os) = o.units + units_in os
