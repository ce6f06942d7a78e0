-- The conflicts of a test by the earlier test and the kind, with their number and the first 8 places.
use Rattle.std.specs.Prelude.{◌≡◌, ◌<◌, ◌+◌, ◌*◌, ◌-◌, ℕ, List, [], ◌∷◌, ◌++◌, map, flat_map, length, take, get_or}
use Rattle.std.specs.List.{range_with_len}
use Rattle.jvm_model.specs.declared.values.Location.{Location}
use Rattle.jvm_model.specs.declared.program.Program.{Program}
use Rattle.jvm_model.specs.Texts.{location_text}
use Rattle.order_law.specs.declared.edges.{Edge.Edge, EdgeKind.EdgeKind, EdgeKind.TheVariants.Raw, EdgeKind.TheVariants.Waw, EdgeKind.TheVariants.War}
use Rattle.order_law.specs.Histories.{Touches}
use Rattle.order_law.specs.OwnRecord.{conflict_places_in, cut, edges_between_in}
use Rattle.access_tags.specs.declared.conflict.{Conflict.Conflict, LocationKey.LocationKey}
use Rattle.access_tags.specs.declared.conflict.LocationKey.TheVariants as spot
use Rattle.access_tags.specs.declared.rows.Row.{Row}
use Rattle.access_tags.specs.{Tag.found, Tag.kind_number, Numbering.located}

-- the place of a kind and an earlier test in a table
abbrev pub key : EdgeKind → ℕ → ℕ
key k u = 3 * u + kind_number k

-- the row of these places
abbrev pub row_with : EdgeKind → ℕ → List LocationKey → Row
row_with k u xs = record { kind = k; earlier = u; count = length xs; spots = take 8 xs }

-- a table has the rows of this earlier test, where these are the conflicts
abbrev pub HasRows : ℕ → List (Conflict LocationKey) → List Row → Type 0
HasRows u hs rows = (k : EdgeKind) (d : Row) → get_or rows (key k u) d ≡ row_with k u (found k u hs)

-- a table has the row of each kind and each earlier test, where these are the conflicts
abbrev pub IsTable : ℕ → List (Conflict LocationKey) → List Row → Type 0
IsTable t hs rows = (k : EdgeKind) (u : ℕ) (d : Row) → u < t → get_or rows (key k u) d ≡ row_with k u (found k u hs)

-- the row for these places, where there is one at least
abbrev pub row_of : EdgeKind → ℕ → List LocationKey → List Row
row_of k u [] = []
row_of k u (x ∷ xs) = row_with k u (x ∷ xs) ∷ []

abbrev pub rows_between : ℕ → List (Conflict LocationKey) → List Row
rows_between u hs = row_of Raw u (found Raw u hs) ++ (row_of Waw u (found Waw u hs) ++ row_of War u (found War u hs))

-- the rows of test t, by the earlier test and then the kind, where these are its conflicts
abbrev pub rows_to : ℕ → List (Conflict LocationKey) → List Row
rows_to t hs = flat_map (λ u. rows_between u hs) (range_with_len 1 (t - 1))

-- the edge of a row of test t, and the locations that are shown of it
abbrev pub edge_by : Program → (ℕ → ℕ × ℕ) → List Location → ℕ → Row → Edge
edge_by p by names t r = record { earlier = r.earlier; later = t; kind = r.kind; count = r.count; first = cut (location_text p by (located names (get_or r.spots 0 (spot.Static 0)))) }

abbrev pub shown_by : Program → (ℕ → ℕ × ℕ) → List Location → ℕ → Row → Edge × List Location
shown_by p by names t r = (edge_by p by names t r, map (λ x. located names x) r.spots)

-- an edge to t with its first 8 locations, in these touches
abbrev pub with_places : Touches → ℕ → Edge → Edge × List Location
with_places T t e = (e, take 8 (conflict_places_in T e.kind e.earlier t))

-- the edges to t in these touches
abbrev pub edges_at : Program → Touches → (ℕ → ℕ × ℕ) → ℕ → List Edge
edges_at p T by t = flat_map (λ u. edges_between_in p T by u t) (range_with_len 1 (t - 1))
