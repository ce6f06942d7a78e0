-- A step as a program of accesses, and its run on a world.
use Rattle.std.specs.Prelude.{ℕ, suc, List, [], ◌∷◌, ◌++◌, ◌+◌, Bool, true, false, ◌&&◌, Option, Some, None}
use Rattle.jvm_model.specs.declared.values.{Value.Value, Touch.Touch, Location.Location}
use Rattle.jvm_model.specs.declared.values.Value.TheVariants.{Int, Long, Null, Lit, Obj}
use Rattle.jvm_model.specs.declared.values.Location.TheVariants as place
use Rattle.jvm_model.specs.World.{Object, World, Content, at, put, has, size, make_object}

-- Reads, writes, new objects and costs in order, each with what comes after it.
pub data Access (A : Type 0) : Type 0 where
  -- the end, with an answer
  done : A → Access A
  -- what is at a location
  read : (l : Location) → (Content l → Access A) → Access A
  -- a new content for a location
  write : (l : Location) → Content l → Access A → Access A
  -- a new object, whose place the rest gets
  make : Object → (ℕ → Access A) → Access A
  -- a part of the step's cost in units
  spend : ℕ → Access A → Access A

-- one program after another
abbrev pub bind : {A B : Type 0} → Access A → (A → Access B) → Access B
bind (done a) f = f a
bind (read l k) f = read l (λ c. bind (k c) f)
bind (write l c rest) f = write l c (bind rest f)
bind (make x k) f = make x (λ o. bind (k o) f)
bind (spend n rest) f = spend n (bind rest f)

-- the object whose reference a value is
abbrev pub given_by : Value → Option ℕ
given_by (Int n) = None
given_by (Long n) = None
given_by Null = None
given_by (Lit n) = None
given_by (Obj o) = Some o

-- the object whose reference a read of the location gave
abbrev pub given : (l : Location) → Content l → Option ℕ
given (place.Static f) v = given_by v
given (place.Init c) v = None
given (place.Head o) v = None
given (place.Field o f) v = given_by v
given (place.Elem o i) v = given_by v
given (place.Text o) v = None
given (place.File n) v = None
given (place.Prop n) v = None

abbrev pub read_of : (l : Location) → Content l → Touch
read_of l c = record { write = false; location = l; gave = given l c }

abbrev pub write_of : Location → Touch
write_of l = record { write = true; location = l; gave = None }

abbrev pub fields_made : ℕ → List (ℕ × Value) → List Touch
fields_made o [] = []
fields_made o (x ∷ xs) = write_of (place.Field o x.0) ∷ fields_made o xs

abbrev pub elems_made : ℕ → ℕ → List Value → List Touch
elems_made o i [] = []
elems_made o i (x ∷ xs) = write_of (place.Elem o i) ∷ elems_made o (suc i) xs

abbrev pub text_made : ℕ → Option (List ℕ) → List Touch
text_made o None = []
text_made o (Some t) = write_of (place.Text o) ∷ []

-- what making an object writes: its head and all its cells
abbrev pub made : ℕ → Object → List Touch
made o x = write_of (place.Head o) ∷ (fields_made o x.fields ++ (elems_made o 0 x.elems ++ text_made o x.text))

-- What a run gives.
pub record Ran (A : Type 0) : Type 0 where
  -- whether each access was of a location that stands
  pub sound : Bool
  pub value : A
  pub world : World
  pub touches : List Touch
  pub units : ℕ

-- the run of a program of accesses on a world
abbrev pub run : {A : Type 0} → Access A → World → Ran A
run (done a) w = record { sound = true; value = a; world = w; touches = []; units = 0 }
run (read l k) w = let r = run (k (at w l)) w in record { sound = has w l && r.sound; value = r.value; world = r.world; touches = read_of l (at w l) ∷ r.touches; units = r.units }
run (write l c rest) w = let r = run rest (put w l c) in record { sound = has w l && r.sound; value = r.value; world = r.world; touches = write_of l ∷ r.touches; units = r.units }
run (make x k) w = let r = run (k (size w)) (make_object w x) in record { sound = r.sound; value = r.value; world = r.world; touches = made (size w) x ++ r.touches; units = r.units }
run (spend n rest) w = let r = run rest w in record { sound = r.sound; value = r.value; world = r.world; touches = r.touches; units = n + r.units }
