-- The walks of the parts that rows show.
use Rattle.std.specs.Prelude.{◌≡◌, ℕ, List, [], map, Option, Some, None}
use Rattle.jvm_model.specs.declared.values.Touch.{Touch}
use Rattle.order_law.specs.{Pairing.PairedList, Walk.Walk}
use Rattle.access_tags.specs.declared.conflict.LocationKey.{LocationKey}
use Rattle.access_tags.specs.declared.conflict.LocationKey.TheVariants as spot
use Rattle.access_tags.specs.declared.rows.Row.{Row}
use Rattle.access_tags.specs.{ParentEdges.location_of, Numbering.located}

-- the object that a part is of
abbrev pub object_of : LocationKey → Option ℕ
object_of (spot.Head o) = Some o
object_of (spot.Field o f) = Some o
object_of (spot.Elem o i) = Some o
object_of (spot.Text o) = Some o
object_of _ = None

-- these parts are those that a walk to the object reads in these touches, and none where there is no object
abbrev pub IsWalkTo : List Touch → Option ℕ → List LocationKey → Type 0
IsWalkTo ts None xs = xs ≡ []
IsWalkTo ts (Some o) xs = (ys : List Touch) → Walk ts o ys → map (located []) xs ≡ map location_of ys

abbrev pub IsWalkOf : List Touch → LocationKey → List LocationKey → Type 0
IsWalkOf ts x xs = IsWalkTo ts (object_of x) xs

-- one for each part
abbrev pub AreWalks : List Touch → List LocationKey → List (List LocationKey) → Type 0
AreWalks ts xs ws = PairedList (IsWalkOf ts) xs ws

-- and so for each row
abbrev pub AreRowWalks : List Touch → Row → List (List LocationKey) → Type 0
AreRowWalks ts r ws = AreWalks ts r.spots ws

abbrev pub HaveRowsWalks : List Touch → List Row → List (List (List LocationKey)) → Type 0
HaveRowsWalks ts rows wss = PairedList (AreRowWalks ts) rows wss
