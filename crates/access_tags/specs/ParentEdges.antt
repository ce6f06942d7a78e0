-- The first reads of the running test that gave objects.
use Rattle.std.specs.Prelude.{◌≡◌, ◌<◌, ◌≤◌, ℕ, List, [], get_or, cond, nat_eq, Option, Some, None, option_map}
use Rattle.jvm_model.specs.declared.values.{Location.Location, Touch.Touch}
use Rattle.order_law.specs.Walk.{first_giving}
use Rattle.access_tags.specs.declared.conflict.LocationKey.{LocationKey}
use Rattle.access_tags.specs.declared.conflict.LocationKey.TheVariants as spot
use Rattle.access_tags.specs.declared.discovery_tree.ParentEdge.{ParentEdge}
use Rattle.access_tags.specs.Numbering.{located}

abbrev pub no_parent : ParentEdge
no_parent = record { test = 0; from = spot.Static 0 }

-- what test t read when it first met the object, by what is kept of objects
abbrev pub met_by : List ParentEdge → ℕ → ℕ → Option LocationKey
met_by ms t o = cond (nat_eq (get_or ms o no_parent).test t) (Some (get_or ms o no_parent).from) None

abbrev pub location_of : Touch → Location
location_of x = x.location

-- What is kept of objects is what test t, which touched ts, read when it first met each; and no later test met any.
pub record HasParents (t : ℕ) (ts : List Touch) (ms : List ParentEdge) : Type 0 where
  pub first : 0 < t → (o : ℕ) → option_map (located []) (met_by ms t o) ≡ option_map location_of (first_giving ts o)
  pub stamped : (o : ℕ) → (get_or ms o no_parent).test ≤ t
