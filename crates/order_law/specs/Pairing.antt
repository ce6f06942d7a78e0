-- The logical relation of two runs. A matching says which numbers of the two sides correspond.
use Rattle.std.specs.Prelude.{◌≡◌, ℕ, ℤ, List, [], ◌∷◌, Option, Some, None}
use Rattle.jvm_model.specs.declared.values.{Value.Value, Base.Base, Kind.Kind, Head.Head, Location.Location, Touch.Touch}
use Rattle.jvm_model.specs.declared.values.Value.TheVariants.{Int, Long, Null, Lit, Obj}
use Rattle.jvm_model.specs.declared.values.Base.TheVariants as base
use Rattle.jvm_model.specs.declared.values.Kind.TheVariants as kind
use Rattle.jvm_model.specs.declared.values.Location.TheVariants as place
use Rattle.jvm_model.specs.World.{Object, Content}
use Rattle.jvm_model.specs.Access.{Access, done, read, write, make, spend}

-- Which numbers of two programs, and which places of two worlds, correspond.
pub record Matching : Type 1 where
  pub place : ℕ → ℕ → Type 0
  pub fields : ℕ → ℕ → Type 0
  pub class : ℕ → ℕ → Type 0
  pub literal : ℕ → ℕ → Type 0

pub record OneToOne (P : ℕ → ℕ → Type 0) : Type 0 where
  pub from_left : (a b c : ℕ) → P a b → P a c → b ≡ c
  pub from_right : (a b c : ℕ) → P a c → P b c → a ≡ b

-- lists of one length, in pairs, and two values or none
pub data PairedList {A B : Type 0} (R : A → B → Type 0) : List A → List B → Type 0 where
  no_more : PairedList R [] []
  one_more : {x : A} {y : B} {xs : List A} {ys : List B} → R x y → PairedList R xs ys → PairedList R (x ∷ xs) (y ∷ ys)

pub data PairedOption {A B : Type 0} (R : A → B → Type 0) : Option A → Option B → Type 0 where
  both_none : PairedOption R None None
  both_some : {x : A} {y : B} → R x y → PairedOption R (Some x) (Some y)

pub data PairedValue (m : Matching) : Value → Value → Type 0 where
  ints : (n : ℤ) → PairedValue m (Int n) (Int n)
  longs : (n : ℤ) → PairedValue m (Long n) (Long n)
  nulls : PairedValue m Null Null
  literals : {n k : ℕ} → m.literal n k → PairedValue m (Lit n) (Lit k)
  objects : {a b : ℕ} → m.place a b → PairedValue m (Obj a) (Obj b)

pub data PairedLocation (m : Matching) : Location → Location → Type 0 where
  statics : {f g : ℕ} → m.fields f g → PairedLocation m (place.Static f) (place.Static g)
  inits : {c d : ℕ} → m.class c d → PairedLocation m (place.Init c) (place.Init d)
  heads : {a b : ℕ} → m.place a b → PairedLocation m (place.Head a) (place.Head b)
  at_field : {a b f g : ℕ} → m.place a b → m.fields f g → PairedLocation m (place.Field a f) (place.Field b g)
  at_elem : {a b : ℕ} (i : ℕ) → m.place a b → PairedLocation m (place.Elem a i) (place.Elem b i)
  texts : {a b : ℕ} → m.place a b → PairedLocation m (place.Text a) (place.Text b)
  files : (n : List ℕ) → PairedLocation m (place.File n) (place.File n)
  props : (n : List ℕ) → PairedLocation m (place.Prop n) (place.Prop n)

-- kinds of objects, over a relation of class numbers
pub data PairedBase (C : ℕ → ℕ → Type 0) : Base → Base → Type 0 where
  booleans : PairedBase C base.Boolean base.Boolean
  bytes : PairedBase C base.Byte base.Byte
  chars : PairedBase C base.Char base.Char
  shorts : PairedBase C base.Short base.Short
  int_bases : PairedBase C base.Int base.Int
  long_bases : PairedBase C base.Long base.Long
  class_bases : {c d : ℕ} → C c d → PairedBase C (base.Class c) (base.Class d)

pub data PairedKind (C : ℕ → ℕ → Type 0) : Kind → Kind → Type 0 where
  class_kinds : {c d : ℕ} → C c d → PairedKind C (kind.Class c) (kind.Class d)
  array_kinds : (n : ℕ) {b b' : Base} → PairedBase C b b' → PairedKind C (kind.Array n b) (kind.Array n b')

pub record PairedHead (C : ℕ → ℕ → Type 0) (h k : Head) : Type 0 where
  pub kind : PairedKind C h.kind k.kind
  pub length : h.length ≡ k.length

-- contents of two locations of one kind
abbrev pub PairedContent : (m : Matching) (L M : Location) → Content L → Content M → Type 0
PairedContent m (place.Static f) (place.Static g) c d = PairedValue m c d
PairedContent m (place.Init f) (place.Init g) c d = c ≡ d
PairedContent m (place.Head a) (place.Head b) c d = PairedHead m.class c d
PairedContent m (place.Field a f) (place.Field b g) c d = PairedValue m c d
PairedContent m (place.Elem a i) (place.Elem b j) c d = PairedValue m c d
PairedContent m (place.Text a) (place.Text b) c d = c ≡ d
PairedContent m (place.File n) (place.File k) c d = c ≡ d
PairedContent m (place.Prop n) (place.Prop k) c d = c ≡ d
PairedContent m _ _ c d = ⊥

-- a field of an object, with its number
pub record PairedCell (m : Matching) (x y : ℕ × Value) : Type 0 where
  pub number : m.fields x.0 y.0
  pub value : PairedValue m x.1 y.1

pub record PairedObject (m : Matching) (x y : Object) : Type 0 where
  pub head : PairedHead m.class x.head y.head
  pub fields : PairedList (PairedCell m) x.fields y.fields
  pub elems : PairedList (PairedValue m) x.elems y.elems
  pub text : x.text ≡ y.text

-- Two programs of accesses that do the same at paired locations, with answers in the relation R.
pub data Paired (m : Matching) {A B : Type 0} (R : A → B → Type 0) : Access A → Access B → Type 0 where
  both_done : {a : A} {b : B} → R a b → Paired m R (done a) (done b)
  both_read : {L L' : Location} {k : Content L → Access A} {k' : Content L' → Access B} → PairedLocation m L L' →
      ((c : Content L) (d : Content L') → PairedContent m L L' c d → Paired m R (k c) (k' d)) → Paired m R (read L k) (read L' k')
  both_write : {L L' : Location} {c : Content L} {d : Content L'} {r : Access A} {r' : Access B} → PairedLocation m L L' →
      PairedContent m L L' c d → Paired m R r r' → Paired m R (write L c r) (write L' d r')
  both_make : {x y : Object} {k : ℕ → Access A} {k' : ℕ → Access B} → PairedObject m x y →
      ((a b : ℕ) → m.place a b → Paired m R (k a) (k' b)) → Paired m R (make x k) (make y k')
  both_spend : (n : ℕ) {r : Access A} {r' : Access B} → Paired m R r r' → Paired m R (spend n r) (spend n r')

pub record PairedTouch (m : Matching) (x y : Touch) : Type 0 where
  pub write : x.write ≡ y.write
  pub location : PairedLocation m x.location y.location
  pub gave : PairedOption m.place x.gave y.gave
