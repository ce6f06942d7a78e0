-- The classes of the objects whose heads tests touch.
use Rattle.std.specs.Prelude.{◌≡◌, ◌<◌, ◌+◌, ◌*◌, ℕ, List, [], Bool, false, ◌&&◌, cond, nat_eq, nat_lt, get_or, Option, Some, None}
use Rattle.std.specs.List.{list_any}
use Rattle.jvm_model.specs.declared.values.{Kind.Kind, Location.Location, Touch.Touch}
use Rattle.jvm_model.specs.declared.values.Location.TheVariants as place
use Rattle.order_law.specs.{Histories.Touches, Reach.inner_class}

-- whether it is the class
abbrev pub is_class : Option ℕ → ℕ → Bool
is_class None c = false
is_class (Some d) c = nat_eq d c

-- whether it is the head of an object of the class
abbrev pub is_head_of : (ℕ → Kind) → ℕ → Location → Bool
is_head_of kinds c (place.Head o) = is_class (inner_class (kinds o)) c
is_head_of kinds c _ = false

-- whether such a head is touched
abbrev pub touches_class : (ℕ → Kind) → ℕ → List Touch → Bool
touches_class kinds c ts = list_any (λ (x : Touch). is_head_of kinds c x.location) ts

-- the touches of test u while test t runs and touched ts
abbrev pub touches_so_far : Touches → ℕ → List Touch → ℕ → List Touch
touches_so_far T t ts u = cond (nat_eq u t) ts (cond (nat_lt u t) (T u) [])

-- whether class c is marked for test u, where so many classes have marks
abbrev pub is_marked : ℕ → List Bool → ℕ → ℕ → Bool
is_marked classes marks u c = nat_lt c classes && get_or marks (u * classes + c) false

-- The marks of so many classes are set for those that each test touched while test t runs and touched ts.
abbrev pub AreMarked : (ℕ → ℕ → Kind) → Touches → ℕ → List Touch → ℕ → List Bool → Type 0
AreMarked kinds T t ts classes marks = (u c : ℕ) → c < classes → is_marked classes marks u c ≡ touches_class (kinds u) c (touches_so_far T t ts u)

-- the kind that is told with a touch: of an object whose head it is of, and else none
abbrev pub IsKindAt : (ℕ → Kind) → Location → Option Kind → Type 0
IsKindAt kinds (place.Head o) k = k ≡ Some (kinds o)
IsKindAt kinds _ k = k ≡ None
