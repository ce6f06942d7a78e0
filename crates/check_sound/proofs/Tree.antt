-- Typed programs of accesses over a world that stands for the heads of the objects and the states of the classes: of the
-- rest of a world only its types are known.
use Rattle.std.specs.Prelude.{◌≡◌, ℕ, ◌<◌, ◌≤◌, length, get_or, true, nat_eq}
use Rattle.jvm_model.specs.declared.values.{Value.TheVariants.Null, Base.Base, Head.Head, InitState.InitState, Location.Location}
use Rattle.jvm_model.specs.declared.values.Kind.TheVariants as kind
use Rattle.jvm_model.specs.declared.values.Location.TheVariants as place
use Rattle.jvm_model.specs.{declared.program.Program.Program, Classes.field_at, Classes.member, Classes.layout, Linked.IsField, Linked.IsKind, View.keys}
use Rattle.jvm_model.specs.World.{Object, World, Content, size, at, look, object_at, put, make_object}
use Rattle.jvm_model.specs.Access.{Access, done, read, write, make, spend}
use Rattle.type_frames.specs.TypedState.{kind_at, IsDeclared, element_text, TypedWorld}

abbrev pub head_at : World → ℕ → Head
head_at w o = (object_at w o).head

-- The location is one of the program and of the objects: a field of the object's class, or an element of an array.
abbrev pub IsSpot : Program → World → Location → Type 0
IsSpot p w (place.Static f) = IsField p f
IsSpot p w (place.Init c) = c < length p.classes
IsSpot p w (place.Head o) = o < size w
IsSpot p w (place.Field o f) = (c : ℕ) × (o < size w) × (kind_at w o ≡ kind.Class c) × (member f (layout p c) ≡ true)
IsSpot p w (place.Elem o i) = (d : ℕ) × (b : Base) × (o < size w) × (kind_at w o ≡ kind.Array d b) × (i < (head_at w o).length)
IsSpot p w (place.Text o) = o < size w
IsSpot p w (place.File n) = Unit {0}
IsSpot p w (place.Prop n) = Unit {0}

-- the content has the type of its location; heads and states are those of the world
abbrev pub FitsSpot : Program → World → (l : Location) → Content l → Type 0
FitsSpot p w (place.Static f) v = IsDeclared p w (field_at p f).descriptor v
FitsSpot p w (place.Init c) s = s ≡ at w (place.Init c)
FitsSpot p w (place.Head o) h = (h ≡ head_at w o) × IsKind p h.kind
FitsSpot p w (place.Field o f) v = IsDeclared p w (field_at p f).descriptor v
FitsSpot p w (place.Elem o i) v = IsDeclared p w (element_text p (kind_at w o)) v
FitsSpot p w (place.Text o) t = Unit {0}
FitsSpot p w (place.File n) t = Unit {0}
FitsSpot p w (place.Prop n) t = Unit {0}

-- a location that holds neither a head nor a state; no step writes the head of an object that stands
abbrev pub IsPlainSpot : Location → Type 0
IsPlainSpot (place.Init c) = ⊥
IsPlainSpot (place.Head o) = ⊥
IsPlainSpot l = Unit {0}

-- a new object of a kind of the program with its cells: those of its class's layout, or as many elements as its head says
pub record IsNew (p : Program) (w : World) (x : Object) : Type 0 where
  pub is_kind : IsKind p x.head.kind
  pub fields : (c f : ℕ) → x.head.kind ≡ kind.Class c → member f (layout p c) ≡ true → (member f (keys x.fields) ≡ true) × IsDeclared p w (field_at p f).descriptor (look nat_eq Null x.fields f)
  pub elems : (d i : ℕ) (b : Base) → x.head.kind ≡ kind.Array d b → i < x.head.length → (i < length x.elems) × IsDeclared p w (element_text p x.head.kind) (get_or x.elems i Null)

-- Each access is at a place and of its type, and each answer is good in the world then.
pub data Tree (p : Program) {A : Type 0} (P : World → A → Type 0) : World → Access A → Type 0 where
  typed_done : {w : World} {a : A} → P w a → Tree p P w (done a)
  typed_read : {w : World} {l : Location} {k : Content l → Access A} → IsSpot p w l → ((c : Content l) → FitsSpot p w l c → Tree p P w (k c)) → Tree p P w (read l k)
  typed_write : {w : World} {l : Location} {c : Content l} {t : Access A} → IsPlainSpot l → IsSpot p w l → FitsSpot p w l c → Tree p P w t → Tree p P w (write l c t)
  typed_mark : {w : World} {c : ℕ} {s : InitState} {t : Access A} → c < length p.classes → Tree p P (put w (place.Init c) s) t → Tree p P w (write (place.Init c) s t)
  typed_make : {w : World} {x : Object} {k : ℕ → Access A} → IsNew p w x → Tree p P (make_object w x) (k (size w)) → Tree p P w (make x k)
  typed_spend : {w : World} {n : ℕ} {t : Access A} → Tree p P w t → Tree p P w (spend n t)
  -- an object that stands is of a kind of the program
  typed_known : {w : World} {t : Access A} (o : ℕ) → o < size w → (IsKind p (kind_at w o) → Tree p P w t) → Tree p P w t

-- the second world has the objects of the first, and maybe more
pub record Over (u w : World) : Type 0 where
  pub sizes : size u ≤ size w
  pub heads : (o : ℕ) → o < size u → head_at w o ≡ head_at u o

-- two worlds have the same heads and the same class states
pub record Alike (u w : World) : Type 0 where
  pub sizes : size u ≡ size w
  pub heads : (o : ℕ) → head_at u o ≡ head_at w o
  pub states : (c : ℕ) → at u (place.Init c) ≡ at w (place.Init c)

-- What a typed run leaves: the world is typed, and the answer is good in one with the same heads and states.
pub record Leaves (p : Program) {A : Type 0} (P : World → A → Type 0) (w : World) (a : A) : Type 0 where
  pub seen : World
  pub alike : Alike seen w
  pub world : TypedWorld p w
  pub answer : P seen a
