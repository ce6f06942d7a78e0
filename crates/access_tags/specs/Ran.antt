-- A run of the tests 1, 2, .. in order: its story, and the objects that each test makes, by the touches of each.
use Rattle.std.specs.Prelude.{◌≡◌, ℕ, zero, suc, ◌-◌, ◌<◌, List, [], ◌∷◌, map, cond, max}
use Rattle.jvm_model.specs.declared.values.{Location.Location, Touch.Touch, Kind.Kind}
use Rattle.jvm_model.specs.declared.values.Location.TheVariants as place
use Rattle.jvm_model.specs.declared.program.Program.{Program}
use Rattle.jvm_model.specs.World.{World, at, place_of}
use Rattle.jvm_model.specs.Suite.{all_tests}
use Rattle.order_law.specs.declared.edges.EdgeKind.{EdgeKind}
use Rattle.order_law.specs.{Conflicts.Member, Histories.Touches, Histories.IsTestNumber, OwnRecord.conflict_places_in, OwnRecord.owner_in, Walk.Walk}
use Rattle.std.specs.Prelude.{Some}
use Rattle.vm_mem.specs.Trace.{Trace, empty_trace, next_test}

-- what test t touches; before the first test there are no touches
abbrev pub touched_by : Touches → ℕ → List Touch
touched_by T zero = []
touched_by T (suc t) = T (suc t)

-- the tests 1 to t began in this order, and all but the last ended
abbrev pub trace_to : Touches → ℕ → Trace
trace_to T zero = empty_trace
trace_to T (suc t) = next_test (trace_to T t) (touched_by T t) (suc t)

-- how many objects there are after a touch, where there were n: making one writes its head
abbrev pub with_head : ℕ → Location → ℕ
with_head n (place.Head o) = max n (suc o)
with_head n _ = n

abbrev pub size_after : ℕ → List Touch → ℕ
size_after n [] = n
size_after n (x ∷ ts) = size_after (cond x.write (with_head n x.location) n) ts

-- how many objects there are when test t ended
abbrev pub size_in : Touches → ℕ → ℕ
size_in T zero = 0
size_in T (suc t) = size_after (size_in T t) (T (suc t))

-- how many objects test t makes
abbrev pub made_in : Touches → ℕ → ℕ
made_in T t = size_in T t - size_in T (t - 1)

-- an object by its test and its number within the test
abbrev pub owner_by : Program → Touches → ℕ → ℕ × ℕ
owner_by p T o = owner_in (map (λ t. made_in T t) (all_tests p)) o

-- to each object at a place of which two tests are in conflict the later one came by a walk of reads
abbrev pub HaveWalks : Program → Touches → Type 0
HaveWalks p T = (k : EdgeKind) (u t o : ℕ) (L : Location) → IsTestNumber p u → u < t → IsTestNumber p t → Member L (conflict_places_in T k u t) → place_of L ≡ Some o →
    (xs : List Touch) × Walk (T t) o xs

-- the kind of each object of a world, of which no touch changes it
abbrev pub kinds_in : World → ℕ → ℕ → Kind
kinds_in w t o = (at w (place.Head o)).kind
