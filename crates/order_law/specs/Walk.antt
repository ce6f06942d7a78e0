-- The walk to an object: by which reads a test came to one that an earlier test made (this project's).
use Rattle.std.specs.Prelude.{◌≡◌, ℕ, ◌<◌, List, [], ◌∷◌, ◌++◌, map, take, codes, decimal, Bool, false, cond, nat_eq, Option, Some, None}
use Rattle.jvm_model.specs.declared.{values.Location.Location, values.Touch.Touch, program.Program.Program}
use Rattle.jvm_model.specs.declared.values.Location.TheVariants as place
use Rattle.jvm_model.specs.{World.World, World.size, World.place_of, Suite.Given, Suite.one_test, Linked.Linked, Texts.field_text, Texts.location_text}
use Rattle.order_law.specs.declared.{edges.Edge.Edge, records.Place.Place, records.Shown.Shown}
use Rattle.order_law.specs.{Conflicts.Member, Histories.Touches, Histories.touches_of, OwnRecord.conflict_places_in, OwnRecord.owner, Pairing.PairedList}

-- whether a touch is a read that gave the reference of the object
abbrev pub is_given : Option ℕ → ℕ → Bool
is_given None o = false
is_given (Some a) o = nat_eq a o

abbrev pub gives : Touch → ℕ → Bool
gives x o = cond x.write false (is_given x.gave o)

-- the first read that gave it
abbrev pub first_giving : List Touch → ℕ → Option Touch
first_giving [] o = None
first_giving (x ∷ ts) o = cond (gives x o) (Some x) (first_giving ts o)

-- the object that a field or an element is a cell of
abbrev pub holder : Location → Option ℕ
holder (place.Field o f) = Some o
holder (place.Elem o i) = Some o
holder _ = None

-- The walk to an object in these touches. Its last read is the first that gave the object; each other one is the first that
-- gave the object whose cell the next one reads; and its first reads a static.
pub data Walk (ts : List Touch) : ℕ → List Touch → Type 0 where
  from_static : {o f : ℕ} {x : Touch} → first_giving ts o ≡ Some x → x.location ≡ place.Static f → Walk ts o (x ∷ [])
  through : {o a : ℕ} {x : Touch} {xs : List Touch} → first_giving ts o ≡ Some x → holder x.location ≡ Some a → Walk ts a xs → Walk ts o (xs ++ (x ∷ []))

-- `static CLASS.FIELD`, `field CLASS.FIELD` or `elem INDEX`
abbrev pub read_text : Program → Location → List ℕ
read_text p (place.Static f) = codes "static " ++ field_text p f
read_text p (place.Field o f) = codes "field " ++ field_text p f
read_text p (place.Elem o i) = codes "elem " ++ decimal i
read_text p _ = []

-- the walk of a location, as texts: that to its object; one of no object has none
abbrev pub IsWalkText : Program → List Touch → Option ℕ → List (List ℕ) → Type 0
IsWalkText p ts None texts = texts ≡ []
IsWalkText p ts (Some o) texts = (xs : List Touch) × Walk ts o xs × (texts ≡ map (λ x. read_text p x.location) xs)

-- a location of an edge as it is shown: its text, uncut, and its walk in the later test's touches
pub record IsPlaceIn (p : Program) (by : ℕ → ℕ × ℕ) (ts : List Touch) (L : Location) (x : Place) : Type 0 where
  pub at : x.at ≡ location_text p by L
  pub walk : IsWalkText p ts (place_of L) x.walk

-- what is shown of an edge in these touches: its first 8 locations, in the order in which the later test touched them first
abbrev pub IsShownIn : Program → Touches → (ℕ → ℕ × ℕ) → Edge → Shown → Type 0
IsShownIn p T by e x = PairedList (IsPlaceIn p by (T e.later)) (take 8 (conflict_places_in T e.kind e.earlier e.later)) x.places

-- what is shown of an edge of the suite's own order
abbrev pub IsShownOf : Program → Edge → Shown → Type 0
IsShownOf p e x = IsShownIn p (touches_of p) (owner p) e x

-- In a linked program a test has one walk to each earlier object of which it touches something.
abbrev pub WalkLaw : Type 0
WalkLaw = (p : Program) (w : World) (t b o : ℕ) (x : Given) (y : Touch) → Linked p → one_test p w t b ≡ Some x → o < size w → Member y x.touches → place_of y.location ≡ Some o →
    (xs : List Touch) × Walk x.touches o xs × ((ys : List Touch) → Walk x.touches o ys → ys ≡ xs)
