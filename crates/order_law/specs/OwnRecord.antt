-- The edges of a program's own record, computed from the run of the whole suite in order.
use Rattle.std.specs.Prelude.{◌≡◌, ℕ, zero, suc, ◌-◌, List, [], ◌∷◌, ◌++◌, map, filter, flat_map, length, take, codes, Bool, true, not, ◌&&◌, cond, nat_lt, nat_le, Some}
use Rattle.std.specs.List.{range_with_len}
use Rattle.jvm_model.specs.{declared.values.Location.Location, declared.values.Touch.Touch, declared.program.Program.Program, World.size, World.same}
use Rattle.jvm_model.specs.{Texts.maker, Texts.location_text, Linked.Linked, Suite.all_tests, Suite.Given, Suite.runs, Suite.is_detected}
use Rattle.order_law.specs.declared.edges.{Edge.Edge, EdgeKind.EdgeKind, EdgeKind.TheVariants.Raw, EdgeKind.TheVariants.Waw, EdgeKind.TheVariants.War}
use Rattle.order_law.specs.Conflicts.{Tests, Member, IsRecord, Lawful, down}
use Rattle.order_law.specs.Histories.{after_history, ran_after, Touches, writes_in, exposed_in, touches_of, IsTestNumber, AreSequential}

-- no test between u and t writes L
abbrev pub none_between : Tests → ℕ → ℕ → Location → Bool
none_between W u zero L = true
none_between W u (suc x) L = cond (nat_lt u x) (not (W x L) && none_between W u x L) true

-- whether there is a conflict of the kind at L
abbrev pub conflicts : Tests → Tests → EdgeKind → ℕ → ℕ → Location → Bool
conflicts W E Raw u t L = E t L && (W u L && none_between W u t L)
conflicts W E Waw u t L = W u L && (W t L && none_between W u t L)
conflicts W E War u t L = W t L && (E u L && (not (W u L) && none_between W u t L))

-- the locations of a list, each at its first mention
abbrev pub first_places : List Location → List Location
first_places [] = []
first_places (L ∷ ls) = L ∷ filter (λ M. not (same L M)) (first_places ls)

-- the locations that a test touches, in the order of first touch
abbrev pub places_in : Touches → ℕ → List Location
places_in T t = first_places (map (λ (x : Touch). x.location) (T t))

-- those at which there is a conflict of the kind
unfoldable pub conflict_places_in : Touches → EdgeKind → ℕ → ℕ → List Location
conflict_places_in T k u t = filter (λ L. conflicts (writes_in T) (exposed_in T) k u t L) (places_in T t)

-- how many objects a test makes in the suite's own order
abbrev pub made_by : Program → ℕ → ℕ
made_by p t = size (ran_after p (down t) t).world - size (after_history p (down t))

-- an object by its test and its number within the test, where the tests make so many
unfoldable pub owner_in : List ℕ → ℕ → ℕ × ℕ
owner_in made o = maker 1 made o

-- an object of the suite's own order
abbrev pub owner : Program → ℕ → ℕ × ℕ
owner p o = owner_in (map (λ t. made_by p t) (all_tests p)) o

-- a text of more than 200 bytes is cut
abbrev pub cut : List ℕ → List ℕ
cut x = cond (nat_le (length x) 200) x (take 200 x ++ codes "...")

-- the edge for these locations, where there is one at least
abbrev pub edge_of : Program → (ℕ → ℕ × ℕ) → EdgeKind → ℕ → ℕ → List Location → List Edge
edge_of p by k u t [] = []
edge_of p by k u t (L ∷ ls) = record { earlier = u; later = t; kind = k; count = length (L ∷ ls); first = cut (location_text p by L) } ∷ []

-- the edges from u to t in these touches
unfoldable pub edges_between_in : Program → Touches → (ℕ → ℕ × ℕ) → ℕ → ℕ → List Edge
edges_between_in p T by u t = edge_of p by Raw u t (conflict_places_in T Raw u t) ++ (edge_of p by Waw u t (conflict_places_in T Waw u t) ++ edge_of p by War u t (conflict_places_in T War u t))

-- all edges, by the later test, then the earlier one, then the kind
unfoldable pub edges_in : Program → Touches → (ℕ → ℕ × ℕ) → List Edge
edges_in p T by = flat_map (λ t. flat_map (λ u. edges_between_in p T by u t) (range_with_len 1 (t - 1))) (all_tests p)

-- those of the suite's own order
abbrev pub edges_between : Program → ℕ → ℕ → List Edge
edges_between p u t = edges_between_in p (touches_of p) (owner p) u t

abbrev pub edges_of : Program → List Edge
edges_of p = edges_in p (touches_of p) (owner p)

-- The law of order with the program's own record: in every lawful list of a detected suite's tests each test gives the
-- outcome that it gives in the suite's own order.
abbrev pub OwnLaw : Type 0
OwnLaw = (p : Program) (l : List ℕ) → Linked p → is_detected p ≡ true → ((t : ℕ) → Member t l → IsTestNumber p t) → Lawful (edges_of p) l →
    (xs : List Given) × (runs p l ≡ Some xs) × AreSequential p l xs

-- The edges of any touches are there exactly where there is a conflict in these touches.
abbrev pub EdgesLaw : Type 0
EdgesLaw = (p : Program) (T : Touches) (by : ℕ → ℕ × ℕ) → IsRecord (writes_in T) (exposed_in T) (length p.tests) (edges_in p T by)
