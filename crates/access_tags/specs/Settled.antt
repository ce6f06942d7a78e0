-- What the tests of a program reach, and whether they are settled.
use Rattle.std.specs.Prelude.{◌≡◌, ◌+◌, ℕ, List, Bool, not, ◌||◌, slice_get, Some}
use Rattle.std.specs.List.{list_all}
use Rattle.jvm_model.specs.{Builtin.out_field, World.same}
use Rattle.jvm_model.specs.declared.program.Program.{Program}
use Rattle.jvm_model.specs.declared.values.Kind.{Kind}
use Rattle.jvm_model.specs.declared.values.Location.TheVariants as place
use Rattle.order_law.specs.declared.records.Reach.{Reach}
use Rattle.order_law.specs.{Histories.Touches, Histories.exposed_in, OwnRecord.places_in, Reach.IsReachIn}

-- whether each exposed read of a test is of the static `System.out`
abbrev pub reads_out_alone : Touches → ℕ → Bool
reads_out_alone T t = list_all (λ L. not (exposed_in T t L) || same L (place.Static out_field)) (places_in T t)

-- the reach of each test, from the first on
abbrev pub AreReaches : Program → Touches → (ℕ → ℕ → Kind) → List Reach → Type 0
AreReaches p T kinds rs = (i : ℕ) (r : Reach) → slice_get rs i ≡ Some r → IsReachIn p T kinds (i + 1) r
