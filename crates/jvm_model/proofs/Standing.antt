-- What is there stays there, over writes and new objects.
use Rattle.std.proofs.Common.{◌≡◌, ℕ, zero, suc, ◌<◌, List, [], ◌∷◌, ◌++◌, length, get_or, set, true, nat_eq, refl, sym, ◌∙◌, ap, subst, inl, inr, arith, Some}
use Rattle.std.proofs.lemmas.Bool.{cases_Bool}
use Rattle.jvm_model.specs.declared.values.{Value.Value, Value.TheVariants.Null, InitState.TheVariants.Idle, Location.Location}
use Rattle.jvm_model.specs.declared.values.Location.TheVariants as place
use Rattle.jvm_model.specs.World.{Content, Object, World, no_object, size, object_at, put_at, keep, put, make_object}
use Rattle.jvm_model.specs.{Classes.member, View.Exists, View.keys}
use Rattle.jvm_model.proofs.Locations.{size_put, size_make}

put_at_longer : {A : Type 0} (d : A) (xs : List A) (i j : ℕ) (v : A) → j < length xs → j < length (put_at d xs i v)
put_at_longer d [] i j v h = absurd (omega arith)
put_at_longer d (x ∷ xs) zero j v h = h
put_at_longer d (x ∷ xs) (suc i) zero v h = omega arith
put_at_longer d (x ∷ xs) (suc i) (suc j) v h = let q = put_at_longer d xs i j v (omega arith) in omega arith

keep_keys : (xs : List (ℕ × Value)) (f g : ℕ) (v : Value) → member g (keys xs) ≡ true → member g (keys (keep nat_eq xs f v)) ≡ true
keep_keys [] f g v h = absurd (cc)
keep_keys (x ∷ xs) f g v h = elim (cases_Bool (nat_eq f x.0)) [
  | inl e ↦ rw e h
  | inr e ↦ rw e (elim (cases_Bool (nat_eq g x.0)) [ inl k ↦ rw k refl | inr k ↦ rw k (keep_keys xs f g v (sym (rw k refl) ∙ h)) ])
]

abbrev has_field : ℕ → Object → Type 0
has_field f x = member f (keys x.fields) ≡ true

abbrev has_elem : ℕ → Object → Type 0
has_elem i x = i < length x.elems

kept : (Q : Object → Type 0) (xs : List Object) (a o : ℕ) (x : Object) → Q (get_or xs o no_object) → (a ≡ o → Q x) → Q (get_or (set xs a x) o no_object)
kept Q [] a o x q f = q
kept Q (y ∷ ys) zero zero x q f = f refl
kept Q (y ∷ ys) zero (suc o) x q f = q
kept Q (y ∷ ys) (suc a) zero x q f = q
kept Q (y ∷ ys) (suc a) (suc o) x q f = kept Q ys a o x q (λ e. f (ap suc e))

-- what holds of the object o holds of the object a, where they are one
moved : (Q : Object → Type 0) (w : World) (a o : ℕ) → Q (object_at w o) → a ≡ o → Q (object_at w a)
moved Q w a o q e = subst (λ z. Q (object_at w z)) (sym e) q

field_stays : (w : World) (m : Location) (c : Content m) (o f : ℕ) → has_field f (object_at w o) → has_field f (object_at (put w m c) o)
field_stays w (place.Head a) c o f h = kept (has_field f) w.objects a o (record (object_at w a) { head = c }) h (λ e. moved (has_field f) w a o h e)
field_stays w (place.Field a g) c o f h = kept (has_field f) w.objects a o (record (object_at w a) { fields = keep nat_eq (object_at w a).fields g c }) h
    (λ e. keep_keys (object_at w a).fields g f c (moved (has_field f) w a o h e))
field_stays w (place.Elem a i) c o f h = kept (has_field f) w.objects a o (record (object_at w a) { elems = put_at Null (object_at w a).elems i c }) h (λ e. moved (has_field f) w a o h e)
field_stays w (place.Text a) c o f h = kept (has_field f) w.objects a o (record (object_at w a) { text = Some c }) h (λ e. moved (has_field f) w a o h e)
field_stays w (place.Static g) c o f h = h
field_stays w (place.Init g) c o f h = h
field_stays w (place.File n) c o f h = h
field_stays w (place.Prop n) c o f h = h

elem_stays : (w : World) (m : Location) (c : Content m) (o i : ℕ) → has_elem i (object_at w o) → has_elem i (object_at (put w m c) o)
elem_stays w (place.Head a) c o i h = kept (has_elem i) w.objects a o (record (object_at w a) { head = c }) h (λ e. moved (has_elem i) w a o h e)
elem_stays w (place.Field a g) c o i h = kept (has_elem i) w.objects a o (record (object_at w a) { fields = keep nat_eq (object_at w a).fields g c }) h (λ e. moved (has_elem i) w a o h e)
elem_stays w (place.Elem a j) c o i h = kept (has_elem i) w.objects a o (record (object_at w a) { elems = put_at Null (object_at w a).elems j c }) h
    (λ e. put_at_longer Null (object_at w a).elems j i c (moved (has_elem i) w a o h e))
elem_stays w (place.Text a) c o i h = kept (has_elem i) w.objects a o (record (object_at w a) { text = Some c }) h (λ e. moved (has_elem i) w a o h e)
elem_stays w (place.Static g) c o i h = h
elem_stays w (place.Init g) c o i h = h
elem_stays w (place.File n) c o i h = h
elem_stays w (place.Prop n) c o i h = h

size_stays : (w : World) (m : Location) (c : Content m) (o : ℕ) → o < size w → o < size (put w m c)
size_stays w m c o h = let q = size_put w m c in omega arith

static_stays : (w : World) (m : Location) (c : Content m) (f : ℕ) → f < length w.statics → f < length (put w m c).statics
static_stays w (place.Static g) c f h = put_at_longer Null w.statics g f c h
static_stays w (place.Init g) c f h = h
static_stays w (place.Head a) c f h = h
static_stays w (place.Field a g) c f h = h
static_stays w (place.Elem a i) c f h = h
static_stays w (place.Text a) c f h = h
static_stays w (place.File n) c f h = h
static_stays w (place.Prop n) c f h = h

state_stays : (w : World) (m : Location) (c : Content m) (k : ℕ) → k < length w.states → k < length (put w m c).states
state_stays w (place.Init g) c k h = put_at_longer Idle w.states g k c h
state_stays w (place.Static g) c k h = h
state_stays w (place.Head a) c k h = h
state_stays w (place.Field a g) c k h = h
state_stays w (place.Elem a i) c k h = h
state_stays w (place.Text a) c k h = h
state_stays w (place.File n) c k h = h
state_stays w (place.Prop n) c k h = h

-- over a write
pub exists_put : (w : World) (m : Location) (c : Content m) (l : Location) → Exists w l → Exists (put w m c) l
exists_put w m c (place.Static f) h = static_stays w m c f h
exists_put w m c (place.Init k) h = state_stays w m c k h
exists_put w m c (place.Head o) h = size_stays w m c o h
exists_put w m c (place.Field o f) h = (size_stays w m c o h.0, field_stays w m c o f h.1)
exists_put w m c (place.Elem o i) h = (size_stays w m c o h.0, elem_stays w m c o i h.1)
exists_put w m c (place.Text o) h = size_stays w m c o h
exists_put w m c (place.File n) h = tt
exists_put w m c (place.Prop n) h = tt

older : (xs : List Object) (x : Object) (o : ℕ) → o < length xs → get_or (xs ++ (x ∷ [])) o no_object ≡ get_or xs o no_object
older [] x o h = absurd (omega arith)
older (y ∷ ys) x zero h = refl
older (y ∷ ys) x (suc o) h = older ys x o (omega arith)

-- over a new object
pub exists_make : (w : World) (x : Object) (l : Location) → Exists w l → Exists (make_object w x) l
exists_make w x (place.Static f) h = h
exists_make w x (place.Init k) h = h
exists_make w x (place.Head o) h = let q = size_make w x in omega arith
exists_make w x (place.Field o f) h = let q = size_make w x in let k = h.0 in (omega arith, subst (has_field f) (sym (older w.objects x o h.0)) h.1)
exists_make w x (place.Elem o i) h = let q = size_make w x in let k = h.0 in (omega arith, subst (has_elem i) (sym (older w.objects x o h.0)) h.1)
exists_make w x (place.Text o) h = let q = size_make w x in omega arith
exists_make w x (place.File n) h = tt
exists_make w x (place.Prop n) h = tt
