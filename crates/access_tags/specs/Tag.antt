-- The tag of a location, as a function of the touches of each test; and the conflicts that are read off it when a test ends.
use Rattle.std.specs.Prelude.{◌≡◌, ◌<◌, ◌≤◌, ℕ, zero, suc, ◌-◌, List, [], ◌∷◌, ◌++◌, map, filter, flat_map, Bool, true, false, not, ◌&&◌, ◌||◌, cond, nat_eq, nat_le, nat_lt}
use Rattle.std.specs.List.{range_with_len}
use Rattle.jvm_model.specs.declared.values.{Location.Location, Touch.Touch}
use Rattle.jvm_model.specs.declared.program.Program.{Program}
use Rattle.jvm_model.specs.Suite.{all_tests}
use Rattle.order_law.specs.declared.edges.{Edge.Edge, EdgeKind.EdgeKind, EdgeKind.TheVariants.Raw, EdgeKind.TheVariants.Waw, EdgeKind.TheVariants.War}
use Rattle.order_law.specs.{Exposed.written, Exposed.exposed, Histories.Touches}
use Rattle.order_law.specs.OwnRecord.{first_places, conflict_places_in, edge_of, edges_in}
use Rattle.access_tags.specs.declared.conflict.Conflict.{Conflict}
use Rattle.access_tags.specs.declared.mark.Mark.{Mark}

-- the last of the tests up to t that writes L, or 0
abbrev pub writer : Touches → ℕ → Location → ℕ
writer T zero L = 0
writer T (suc t) L = cond (written (T (suc t)) L) (suc t) (writer T t L)

-- those of them with an exposed read of L and no write of it since, the latest first
abbrev pub readers : Touches → ℕ → Location → List ℕ
readers T zero L = []
readers T (suc t) L = cond (written (T (suc t)) L) [] (cond (exposed (T (suc t)) L) (suc t ∷ readers T t L) (readers T t L))

-- what these touches did at L
abbrev pub mark : List Touch → Location → Mark
mark ts L = record { exposed = exposed ts L; written = written ts L }

-- What is kept of a location: the last writer among the tests that ended, the readers since, and what the running test did.
pub record Tag : Type 0 where
  pub writer : ℕ
  pub readers : List ℕ
  pub mark : Mark

-- the tag of L when t tests ended and the running one touched ts
abbrev pub tag : Touches → ℕ → List Touch → Location → Tag
tag T t ts L = record { writer = writer T t L; readers = readers T t L; mark = mark ts L }

abbrev pub no_mark : Mark
no_mark = record { exposed = false; written = false }

abbrev pub no_tag : Tag
no_tag = record { writer = 0; readers = []; mark = no_mark }

-- the mark after one more touch
abbrev pub marked : Bool → Mark → Mark
marked write m = cond write (record { exposed = m.exposed; written = true }) (record { exposed = m.exposed || not m.written; written = m.written })

-- whether one more touch leaves the mark as it is
abbrev pub covers : Bool → Mark → Bool
covers write m = m.written || (m.exposed && not write)

-- no touch yet
abbrev pub is_new : Mark → Bool
is_new m = not m.exposed && not m.written

-- the tag after one more touch
abbrev pub noted : Bool → Tag → Tag
noted write g = record { writer = g.writer; readers = g.readers; mark = marked write g.mark }

-- the tag when test t ended
abbrev pub ended : ℕ → Tag → Tag
ended t g = record {
  writer = cond g.mark.written t g.writer;
  readers = cond g.mark.written [] (cond g.mark.exposed (t ∷ g.readers) g.readers);
  mark = no_mark;
}

-- the tags after a change of those of the locations from a number up to but not another
abbrev pub with_changed : (Tag → Tag) → (ℕ → Tag) → ℕ → ℕ → ℕ → Tag
with_changed f c first end l = cond (nat_le first l && nat_lt l end) (f (c l)) (c l)

-- the tag of a location that the running test wrote before any test read it or another wrote it
abbrev pub made_tag : Tag
made_tag = record { writer = 0; readers = []; mark = record { exposed = false; written = true } }

-- a conflict of the running test at a place
abbrev pub conflict : {P : Type 0} → EdgeKind → P → ℕ → Conflict P
conflict k x u = record { kind = k; earlier = u; place = x }

-- the conflict with the last writer, where there is one
abbrev pub with_writer : {P : Type 0} → EdgeKind → P → ℕ → List (Conflict P)
with_writer k x u = cond (nat_eq u 0) [] (conflict k x u ∷ [])

-- the conflicts at a place with this tag
abbrev pub conflicts_at : {P : Type 0} → P → Tag → List (Conflict P)
conflicts_at x g = cond g.mark.exposed (with_writer Raw x g.writer) [] ++ cond g.mark.written (with_writer Waw x g.writer ++ map (conflict War x) g.readers) []

-- the locations that are touched, in the order of first touch
abbrev pub places : List Touch → List Location
places ts = first_places (map (λ (x : Touch). x.location) ts)

-- the conflicts of test t + 1 that touched ts, by the order of first touch
abbrev pub conflicts_found : Touches → ℕ → List Touch → List (Conflict Location)
conflicts_found T t ts = flat_map (λ L. conflicts_at L (tag T t ts L)) (places ts)

abbrev pub same_kind : EdgeKind → EdgeKind → Bool
same_kind Raw Raw = true
same_kind Waw Waw = true
same_kind War War = true
same_kind _ _ = false

-- the place of a kind among the three
abbrev pub kind_number : EdgeKind → ℕ
kind_number Raw = 0
kind_number Waw = 1
kind_number War = 2

abbrev pub is_conflict : {P : Type 0} → EdgeKind → ℕ → Conflict P → Bool
is_conflict k u h = same_kind k h.kind && nat_eq u h.earlier

-- the places of the conflicts of a kind with test u
abbrev pub found : {P : Type 0} → EdgeKind → ℕ → List (Conflict P) → List P
found k u hs = map (λ h. h.place) (filter (is_conflict k u) hs)

-- the edges from u to t, and all to t, where these are the conflicts of t
abbrev pub edges_between : Program → (ℕ → ℕ × ℕ) → ℕ → ℕ → List (Conflict Location) → List Edge
edges_between p by u t hs = edge_of p by Raw u t (found Raw u hs) ++ (edge_of p by Waw u t (found Waw u hs) ++ edge_of p by War u t (found War u hs))

abbrev pub edges_to : Program → (ℕ → ℕ × ℕ) → ℕ → List (Conflict Location) → List Edge
edges_to p by t hs = flat_map (λ u. edges_between p by u t hs) (range_with_len 1 (t - 1))

-- The conflicts that are gathered at the end of test t + 1 are those of the definition, in the order of first touch.
abbrev pub TagsLaw : Type 0
TagsLaw = (T : Touches) (k : EdgeKind) (u t : ℕ) → 0 < u → u ≤ t → found k u (conflicts_found T t (T (suc t))) ≡ conflict_places_in T k u (suc t)

-- The edges to each test by the conflicts that are gathered at its end are all edges of the touches, in the record's order.
abbrev pub RowsLaw : Type 0
RowsLaw = (p : Program) (T : Touches) (by : ℕ → ℕ × ℕ) → flat_map (λ t. edges_to p by t (conflicts_found T (t - 1) (T t))) (all_tests p) ≡ edges_in p T by
