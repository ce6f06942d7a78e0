-- What a memory with tags keeps of the world that it stands for and of the tests that it follows.
use Rattle.std.specs.Prelude.{◌≡◌, ℕ, ◌+◌, ◌-◌, ◌<◌, List, [], ◌∷◌, ◌++◌, map, length, Bool, true, false, not, nat_eq, ◌||◌, slice_get, get_or, Option, Some}
use Rattle.std.specs.List.{list_all, list_any}
use Rattle.jvm_model.specs.declared.values.{Location.Location, Touch.Touch, Kind.Kind}
use Rattle.jvm_model.specs.declared.values.Location.TheVariants as place
use Rattle.jvm_model.specs.declared.program.Program.{Program}
use Rattle.jvm_model.specs.{Builtin.out_field, Classes.fields_of, View.Exists, View.keys}
use Rattle.jvm_model.specs.World.{World, Object, at, size, object_at, same}
use Rattle.order_law.specs.{Exposed.exposed, Histories.Touches}
use Rattle.vm_mem.specs.Trace.{Trace, Extends}
use Rattle.access_tags.specs.declared.ended.Ended.{Ended}
use Rattle.access_tags.specs.declared.memory.TaggedMemory.{TaggedMemory}
use Rattle.access_tags.specs.declared.numbers.Numbers.{Numbers}
use Rattle.access_tags.specs.declared.tags.Tags.{Tags}
use Rattle.access_tags.specs.Numbering.{Numbering, is_name, located, position}
use Rattle.access_tags.specs.Ran.{trace_to, size_in, size_after, touched_by}
use Rattle.access_tags.specs.{Paths.HaveRowsWalks, HasDiscovered.HasDiscovered, HeadMarks.IsKindAt, HeadsStand.HeadsStand, Shelf.count, Stands.Stands}
use Rattle.access_tags.specs.declared.conflict.LocationKey.{LocationKey}
use Rattle.access_tags.specs.Rows.{edges_at, shown_by, with_places}
use Rattle.access_tags.specs.{Tag.places, Worlds.cells_of, Worlds.bases_of}

-- an object has the fields of its kind, and none where it has elements
pub record IsLaid (p : Program) (x : Object) : Type 0 where
  pub fields : keys x.fields ≡ keys (fields_of p x.head.kind)
  pub elems : 0 < length x.elems → length x.fields ≡ 0

-- these are the numbers of a world's locations
pub record IsNumbered (w : World) (n : Numbers) : Type 0 where
  pub statics : n.statics ≡ length w.statics
  pub bases : n.bases.items ≡ bases_of w
  pub layouts : n.layouts ≡ n.places
  pub laid : (o : ℕ) → o < size w → IsLaid n.places (object_at w o)

-- whether a memory keeps walks, by its parameter
abbrev pub keeps_walks : ℕ → Bool
keeps_walks n = not (nat_eq n 0)

-- what is kept of test t, which ended, with walks or without
pub record IsEnded (walks_kept : Bool) (T : Touches) (names : List Location) (t : ℕ) (x : Ended) : Type 0 where
  pub rows : (p : Program) (by : ℕ → ℕ × ℕ) (more : List Location) → map (shown_by p by (names ++ more) t) x.rows ≡ map (with_places T t) (edges_at p T by t)
  pub size : x.size ≡ size_in T t
  pub walks : walks_kept ≡ true → HaveRowsWalks (T t) x.rows x.walks
  pub alone : x.alone ≡ list_all (λ L. not (exposed (T t) L) || same L (place.Static out_field)) (places (T t))

-- the locations of a world, with these names
abbrev pub numbering_in : World → List Location → Numbering
numbering_in w names = record { cells = cells_of w; names = names }

abbrev pub numbering : {W : ℕ} → TaggedMemory W → Numbering
numbering m = numbering_in m.memory.world m.names

-- a file or property has this number among the names
pub record IsNamed (names : List Location) (L : Location) (k : ℕ) : Type 0 where
  pub at : position names L ≡ k
  pub here : get_or names k (place.Static 0) ≡ L
  pub there : list_any (same L) names ≡ true

-- there are as many locations as before
pub record HaveSameRoom (old new : Tags) : Type 0 where
  pub cells : count new.cells ≡ count old.cells
  pub named : count new.named ≡ count old.named

-- these touches more were noted
abbrev pub HaveNoted : Numbering → Tags → Tags → List Touch → Type 0
HaveNoted n old new xs = (T : Touches) (t : ℕ) (ts : List Touch) → Stands n T t ts old → Stands n T t (ts ++ xs) new

-- the kinds of a world's objects, which no test changes
abbrev pub AreKinds : (ℕ → ℕ → Kind) → World → Type 0
AreKinds kinds w = (u o : ℕ) → o < size w → kinds u o ≡ (at w (place.Head o)).kind

-- test t of these runs, and touched ts
pub record IsTold {W : ℕ} (T : Touches) (t : ℕ) (ts : List Touch) (m : TaggedMemory W) : Type 0 where
  pub stands : Stands (numbering m) T (t - 1) ts m.tags
  pub size : size m.memory.world ≡ size_after (size_in T (t - 1)) ts
  pub met : keeps_walks W ≡ true → HasDiscovered t ts m.discovery_tree
  pub heads : (kinds : ℕ → ℕ → Kind) → AreKinds kinds m.memory.world → HeadsStand kinds (touched_by T) t ts m.heads
  pub each : length m.ended ≡ t - 1
  pub ended : (i : ℕ) (x : Ended) → slice_get m.ended i ≡ Some x → IsEnded (keeps_walks W) T m.names (i + 1) x

-- a memory with tags follows these tests, of which the one that runs made these touches
pub record Follows {W : ℕ} (m : TaggedMemory W) (h : Trace) (ts : List Touch) : Type 0 where
  pub test : m.test ≡ h.test
  pub numbered : IsNumbered m.memory.world m.numbers
  pub cells : count m.tags.cells ≡ length (cells_of m.memory.world)
  pub named : count m.tags.named ≡ length m.names
  pub program : m.numbers.places ≡ m.memory.program
  pub classes : m.heads.classes ≡ length m.numbers.places.classes
  pub told : (T : Touches) → h ≡ trace_to T h.test → IsTold T h.test ts m

-- A touch of a spot was noted: a read that gave this, or a write, of the head of an object of this kind or of another part.
abbrev pub HasNoted : {W : ℕ} → TaggedMemory W → TaggedMemory W → LocationKey → Bool → Option ℕ → Option Kind → Type 0
HasNoted old new s write gave kind = (x : Touch) → is_name s ≡ false → Exists old.memory.world (located [] s) → x.write ≡ write → x.location ≡ located [] s → x.gave ≡ gave →
    IsKindAt (λ o. (at old.memory.world (place.Head o)).kind) (located [] s) kind → size_after (size old.memory.world) (x ∷ []) ≡ size old.memory.world → Extends Follows old new (x ∷ [])
