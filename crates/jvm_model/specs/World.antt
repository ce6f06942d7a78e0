-- The world: objects, statics, class states, files and properties, and what is at each location of it.
use Rattle.std.specs.Prelude.{ℕ, zero, suc, List, [], ◌∷◌, ◌++◌, length, get_or, set, Bool, true, false, ◌&&◌, cond, nat_eq, nat_lt, Option, Some, None}
use Rattle.std.specs.Str.{bytes_eq}
use Rattle.jvm_model.specs.declared.values.{Value.Value, Value.TheVariants.Null, Head.Head, InitState.InitState, InitState.TheVariants.Idle, Location.Location}
use Rattle.jvm_model.specs.declared.values.Kind.TheVariants as kind
use Rattle.jvm_model.specs.declared.values.Location.TheVariants as place

-- An object: its head, its fields by their numbers in the order of the layout, the elements of an array, and the
-- text of a string or string builder, once one was written.
pub record Object : Type 0 where
  pub head : Head
  pub fields : List (ℕ × Value)
  pub elems : List Value
  pub text : Option (List ℕ)

-- All that a test may find or leave. An object's place is its place in the list; statics are listed by field number
-- and states by class number. A file or property that is noted as None isn't there.
pub record World : Type 0 where
  pub objects : List Object
  pub statics : List Value
  pub states : List InitState
  pub files : List (List ℕ × Option (List ℕ))
  pub props : List (List ℕ × Option (List ℕ))

-- what stands where nothing was made, the same in every program
abbrev pub no_head : Head
no_head = record { kind = kind.Class 0; length = 0 }

abbrev pub no_object : Object
no_object = record { head = no_head; fields = []; elems = []; text = None }

-- the number of objects, which is the place of the next one
abbrev pub size : World → ℕ
size w = length w.objects

abbrev pub object_at : World → ℕ → Object
object_at w o = get_or w.objects o no_object

-- a list's place is set, with defaults before it where the list is shorter
abbrev pub put_at : {A : Type 0} → A → List A → ℕ → A → List A
put_at d [] zero v = v ∷ []
put_at d [] (suc i) v = d ∷ put_at d [] i v
put_at d (x ∷ xs) zero v = v ∷ xs
put_at d (x ∷ xs) (suc i) v = x ∷ put_at d xs i v

-- the entry of a key, by the test e of keys
abbrev pub look : {K A : Type 0} → (K → K → Bool) → A → List (K × A) → K → A
look e d [] k = d
look e d (x ∷ xs) k = cond (e k x.0) x.1 (look e d xs k)

-- the entry of a key is set in its place, or stands last
abbrev pub keep : {K A : Type 0} → (K → K → Bool) → List (K × A) → K → A → List (K × A)
keep e [] k v = (k, v) ∷ []
keep e (x ∷ xs) k v = cond (e k x.0) ((x.0, v) ∷ xs) (x ∷ keep e xs k v)

-- the text, empty until one was written
abbrev pub text_or_empty : Option (List ℕ) → List ℕ
text_or_empty None = []
text_or_empty (Some t) = t

-- the type of what is at a location
abbrev pub Content : Location → Type 0
Content (place.Static f) = Value
Content (place.Init c) = InitState
Content (place.Head o) = Head
Content (place.Field o f) = Value
Content (place.Elem o i) = Value
Content (place.Text o) = List ℕ
Content (place.File n) = Option (List ℕ)
Content (place.Prop n) = Option (List ℕ)

-- what is at a location
abbrev pub at : World → (l : Location) → Content l
at w (place.Static f) = get_or w.statics f Null
at w (place.Init c) = get_or w.states c Idle
at w (place.Head o) = (object_at w o).head
at w (place.Field o f) = look nat_eq Null (object_at w o).fields f
at w (place.Elem o i) = get_or (object_at w o).elems i Null
at w (place.Text o) = text_or_empty (object_at w o).text
at w (place.File n) = look bytes_eq None w.files n
at w (place.Prop n) = look bytes_eq None w.props n

abbrev pub with_object : World → ℕ → Object → World
with_object w o x = record w { objects = set w.objects o x }

-- the world with another content at a location
abbrev pub put : World → (l : Location) → Content l → World
put w (place.Static f) v = record w { statics = put_at Null w.statics f v }
put w (place.Init c) v = record w { states = put_at Idle w.states c v }
put w (place.Head o) v = with_object w o (record (object_at w o) { head = v })
put w (place.Field o f) v = with_object w o (record (object_at w o) { fields = keep nat_eq (object_at w o).fields f v })
put w (place.Elem o i) v = with_object w o (record (object_at w o) { elems = put_at Null (object_at w o).elems i v })
put w (place.Text o) v = with_object w o (record (object_at w o) { text = Some v })
put w (place.File n) v = record w { files = keep bytes_eq w.files n v }
put w (place.Prop n) v = record w { props = keep bytes_eq w.props n v }

-- a new object goes last
abbrev pub make_object : World → Object → World
make_object w x = record w { objects = w.objects ++ (x ∷ []) }

-- the object that a location is a part of
abbrev pub place_of : Location → Option ℕ
place_of (place.Head o) = Some o
place_of (place.Field o f) = Some o
place_of (place.Elem o i) = Some o
place_of (place.Text o) = Some o
place_of _ = None

-- whether the location stands: one of an object needs the object
abbrev pub has : World → Location → Bool
has w l = elim (place_of l) [ None ↦ true | Some o ↦ nat_lt o (size w) ]

-- what an object holds at a location of its own
abbrev pub part : Object → (l : Location) → Content l
part x (place.Static f) = Null
part x (place.Init c) = Idle
part x (place.Head o) = x.head
part x (place.Field o f) = look nat_eq Null x.fields f
part x (place.Elem o i) = get_or x.elems i Null
part x (place.Text o) = text_or_empty x.text
part x (place.File n) = None
part x (place.Prop n) = None

-- whether two locations are the same
abbrev pub same : Location → Location → Bool
same (place.Static f) (place.Static g) = nat_eq f g
same (place.Init c) (place.Init d) = nat_eq c d
same (place.Head a) (place.Head b) = nat_eq a b
same (place.Field a f) (place.Field b g) = nat_eq a b && nat_eq f g
same (place.Elem a i) (place.Elem b j) = nat_eq a b && nat_eq i j
same (place.Text a) (place.Text b) = nat_eq a b
same (place.File n) (place.File k) = bytes_eq n k
same (place.Prop n) (place.Prop k) = bytes_eq n k
same _ _ = false
