-- The locations of a world in the order of their numbers: statics, class states, and the parts of each object.
use Rattle.std.specs.Prelude.{◌≡◌, ℕ, suc, ◌+◌, List, [], ◌∷◌, ◌++◌, length, get_or, map, true, false}
use Rattle.std.specs.List.{list_any, range_with_len}
use Rattle.jvm_model.specs.declared.values.Location.{Location}
use Rattle.jvm_model.specs.declared.values.Location.TheVariants as place
use Rattle.jvm_model.specs.World.{Object, World, Content, same, object_at, put, size, make_object}
use Rattle.jvm_model.specs.View.{keys, Exists}
use Rattle.vm_tables.specs.FieldPlaces.{place as place_in}
use Rattle.access_tags.specs.Numbering.{position, is_named}

-- the parts of object o: its head, its text, its fields in the order of the layout, and its elements
abbrev pub parts : ℕ → Object → List Location
parts o x = place.Head o ∷ (place.Text o ∷ (map (λ f. place.Field o f) (keys x.fields) ++ map (λ i. place.Elem o i) (range_with_len 0 (length x.elems))))

-- the parts of objects numbered from o
abbrev pub all_parts : ℕ → List Object → List Location
all_parts o [] = []
all_parts o (x ∷ xs) = parts o x ++ all_parts (suc o) xs

abbrev pub statics_of : World → List Location
statics_of w = map (λ f. place.Static f) (range_with_len 0 (length w.statics))

abbrev pub states_of : World → List Location
states_of w = map (λ c. place.Init c) (range_with_len 0 (length w.states))

abbrev pub cells_of : World → List Location
cells_of w = statics_of w ++ (states_of w ++ all_parts 0 w.objects)

-- how many parts an object has
abbrev pub width : Object → ℕ
width x = 2 + (length x.fields + length x.elems)

-- the first number of each object, where those of the first one begin at b
abbrev pub bases : ℕ → List Object → List ℕ
bases b [] = []
bases b (x ∷ xs) = b ∷ bases (b + width x) xs

-- the first number of object o
abbrev pub base_of : World → ℕ → ℕ
base_of w o = get_or (bases (length w.statics + length w.states) w.objects) o 0

-- the number of a location
abbrev pub number_in : World → Location → ℕ
number_in w (place.Static f) = f
number_in w (place.Init c) = length w.statics + c
number_in w (place.Head o) = base_of w o
number_in w (place.Text o) = base_of w o + 1
number_in w (place.Field o f) = base_of w o + (2 + place_in f (keys (object_at w o).fields))
number_in w (place.Elem o i) = base_of w o + (2 + (length (object_at w o).fields + i))
number_in w _ = 0

-- a location stands at this place of a list
pub record StandsAt (ls : List Location) (L : Location) (n : ℕ) : Type 0 where
  pub at : position ls L ≡ n
  pub there : list_any (same L) ls ≡ true

-- Each location that is there, but a file or property, stands at its number.
abbrev pub NumbersLaw : Type 0
NumbersLaw = (w : World) (L : Location) → is_named L ≡ false → Exists w L → StandsAt (cells_of w) L (number_in w L)

abbrev pub bases_of : World → List ℕ
bases_of w = bases (length w.statics + length w.states) w.objects

-- A write of a location that is there changes no number. A new object's parts stand last, and its first number is how many
-- locations there were.
pub record ChangesLaw : Type 0 where
  pub put_cells : (w : World) (L : Location) (v : Content L) → Exists w L → cells_of (put w L v) ≡ cells_of w
  pub put_bases : (w : World) (L : Location) (v : Content L) → Exists w L → bases_of (put w L v) ≡ bases_of w
  pub made_cells : (w : World) (x : Object) → cells_of (make_object w x) ≡ cells_of w ++ parts (size w) x
  pub made_bases : (w : World) (x : Object) → bases_of (make_object w x) ≡ bases_of w ++ length (cells_of w) ∷ []
