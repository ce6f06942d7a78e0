-- What is shown of parts with their walks.
use Rattle.std.specs.Prelude.{ℕ, List, [], ◌∷◌, map}
use Rattle.jvm_model.specs.declared.values.Location.{Location}
use Rattle.jvm_model.specs.declared.program.Program.{Program}
use Rattle.jvm_model.specs.Texts.{location_text}
use Rattle.order_law.specs.declared.records.{Place.Place, Shown.Shown}
use Rattle.order_law.specs.Walk.{read_text}
use Rattle.access_tags.specs.declared.conflict.LocationKey.{LocationKey}
use Rattle.access_tags.specs.declared.rows.Row.{Row}
use Rattle.access_tags.specs.Numbering.{located}

abbrev pub place_by : Program → (ℕ → ℕ × ℕ) → List Location → LocationKey → List LocationKey → Place
place_by p by names x xs = record { at = location_text p by (located names x); walk = map (λ (y : LocationKey). read_text p (located [] y)) xs }

-- two lists in pairs, as far as both go
abbrev pub zipped : {A B C : Type 0} → (A → B → C) → List A → List B → List C
zipped f [] ys = []
zipped f (x ∷ xs) [] = []
zipped f (x ∷ xs) (y ∷ ys) = f x y ∷ zipped f xs ys

abbrev pub places_by : Program → (ℕ → ℕ × ℕ) → List Location → List LocationKey → List (List LocationKey) → List Place
places_by p by names xs ws = zipped (place_by p by names) xs ws

abbrev pub shown_parts : Program → (ℕ → ℕ × ℕ) → List Location → List LocationKey → List (List LocationKey) → Shown
shown_parts p by names xs ws = record { places = places_by p by names xs ws }

-- what is shown of rows
abbrev pub shown_with : Program → (ℕ → ℕ × ℕ) → List Location → Row → List (List LocationKey) → Shown
shown_with p by names r ws = shown_parts p by names r.spots ws

abbrev pub shown_rows : Program → (ℕ → ℕ × ℕ) → List Location → List Row → List (List (List LocationKey)) → List Shown
shown_rows p by names rs wss = zipped (shown_with p by names) rs wss
