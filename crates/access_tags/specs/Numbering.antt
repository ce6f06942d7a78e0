-- The locations of a memory in the order of their numbers, and the tags by them.
use Rattle.std.specs.Prelude.{◌≡◌, ℕ, suc, List, [], ◌∷◌, ◌++◌, get_or, map, flat_map, Bool, true, false, not, ◌||◌, cond, nat_eq}
use Rattle.std.specs.List.{list_any, list_all}
use Rattle.jvm_model.specs.declared.values.Location.{Location}
use Rattle.jvm_model.specs.declared.values.Location.TheVariants as place
use Rattle.jvm_model.specs.World.{same}
use Rattle.access_tags.specs.declared.conflict.{Conflict.Conflict, LocationKey.LocationKey, Touched.Touched}
use Rattle.access_tags.specs.declared.conflict.LocationKey.TheVariants as spot
use Rattle.access_tags.specs.Tag.{Tag, conflict, conflicts_at}

-- the locations of statics, class states and objects, and those of names, each in the order of their numbers
pub record Numbering : Type 0 where
  pub cells : List Location
  pub names : List Location

-- with these locations at the end
abbrev pub with_cells : Numbering → List Location → Numbering
with_cells n ls = record n { cells = n.cells ++ ls }

abbrev pub with_names : Numbering → List Location → Numbering
with_names n ls = record n { names = n.names ++ ls }

-- the location of a spot
abbrev pub located : List Location → LocationKey → Location
located names (spot.Static f) = place.Static f
located names (spot.Init c) = place.Init c
located names (spot.Head o) = place.Head o
located names (spot.Field o f) = place.Field o f
located names (spot.Elem o i) = place.Elem o i
located names (spot.Text o) = place.Text o
located names (spot.Named k) = get_or names k (place.Static 0)

abbrev pub is_name : LocationKey → Bool
is_name (spot.Named k) = true
is_name _ = false

-- whether it is this static
abbrev pub is_static : LocationKey → ℕ → Bool
is_static (spot.Static g) f = nat_eq g f
is_static _ f = false

abbrev pub is_named : Location → Bool
is_named (place.File n) = true
is_named (place.Prop n) = true
is_named _ = false

-- how many locations stand before the first one that is L
abbrev pub position : List Location → Location → ℕ
position [] L = 0
position (M ∷ ls) L = cond (same L M) 0 (suc (position ls L))

-- the list in which L stands
abbrev pub list_of : Numbering → Location → List Location
list_of n L = cond (is_named L) n.names n.cells

abbrev pub number : Numbering → Location → ℕ
number n L = position (list_of n L) L

-- the tag of L, where the tags of cells and of names are these by their numbers
abbrev pub view : Numbering → (ℕ → Tag) → (ℕ → Tag) → Location → Tag
view n c d L = cond (is_named L) (d (number n L)) (c (number n L))

-- an entry of the list of what is touched is of location L, and says where it stands
pub record IsAt (n : Numbering) (x : Touched) (L : Location) : Type 0 where
  pub kind : is_named L ≡ is_name x.spot
  pub at : x.at ≡ number n L
  pub there : list_any (same L) (list_of n L) ≡ true

abbrev pub IsPlaced : Numbering → Touched → Type 0
IsPlaced n x = IsAt n x (located n.names x.spot)

abbrev pub ArePlaced : Numbering → List Touched → Type 0
ArePlaced n [] = Unit {0}
ArePlaced n (x ∷ xs) = IsPlaced n x × ArePlaced n xs

abbrev pub locations : Numbering → List Touched → List Location
locations n xs = map (λ (x : Touched). located n.names x.spot) xs

-- whether the location of an entry is L
abbrev pub is_at : Numbering → Location → Touched → Bool
is_at n L x = same L (located n.names x.spot)

-- the tag of an entry, by the tags of cells and of names
abbrev pub tag_at : (ℕ → Tag) → (ℕ → Tag) → Touched → Tag
tag_at c d x = cond (is_name x.spot) (d x.at) (c x.at)

-- the conflicts at entries
abbrev pub conflicts_in : (ℕ → Tag) → (ℕ → Tag) → List Touched → List (Conflict LocationKey)
conflicts_in c d xs = flat_map (λ (x : Touched). conflicts_at x.spot (tag_at c d x)) xs

-- whether there is no exposed read of an entry, or it is this static
abbrev pub is_alone : (ℕ → Tag) → (ℕ → Tag) → ℕ → Touched → Bool
is_alone c d f x = not (tag_at c d x).mark.exposed || is_static x.spot f

abbrev pub are_alone : (ℕ → Tag) → (ℕ → Tag) → ℕ → List Touched → Bool
are_alone c d f xs = list_all (λ (x : Touched). is_alone c d f x) xs

-- a conflict at a spot as one at its location
abbrev pub at_location : Numbering → Conflict LocationKey → Conflict Location
at_location n h = conflict h.kind (located n.names h.place) h.earlier
