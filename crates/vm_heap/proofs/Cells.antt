-- Fields and elements of an object by the cells of all.
use Rattle.std.proofs.Common.{◌≡◌, ℕ, suc, ◌+◌, ◌^◌, ◌-◌, ◌<◌, ◌≤◌, List, [], ◌∷◌, ◌++◌, length, get_or, set, drop, map, nat_eq, true, Option, Some, None, refl, sym, subst, ap, ◌∙◌, arith, inl, inr, length-append, Vec, Global}
use Rattle.std.specs.{Vec.vec_len, List.zip}
use Rattle.std.proofs.lemmas.Bool.{cases_Bool}
use Rattle.std.proofs.lemmas.List.{get_or_default, get_or-take, get_or-drop, drop-set-lt, length-drop, length-take-le, nil_from_length}
use Rattle.jvm_model.specs.declared.{program.Program.Program, values.Value.Value, values.Value.TheVariants.Null, values.Kind.Kind}
use Rattle.jvm_model.specs.{declared.values.Kind.TheVariants.Class, declared.values.Kind.TheVariants.Array, declared.values.Head.Head, View.keys}
use Rattle.jvm_model.specs.World.{Object, look, keep, put_at, no_object}
use Rattle.jvm_model.specs.Classes.{member, layout, field_at, default_of, fields_of, elems_of, blank}
use Rattle.vm_heap.specs.{Entries.Entry, Entries.no_entry, Held.Held}
use Rattle.vm_heap.specs.Objects.{field_numbers, new_cells, cell_count, object_of, objects_of, IsWhole, IsHeap}
use Rattle.vm_tables.specs.FieldPlaces.{place, IsHeld}
use Rattle.jvm_model.proofs.Ranges.{put_at_is_set}
use Rattle.vm_heap.proofs.Objects.{before, own_cells, object_there, cell_set, start_at, cells_within, length-objects_of, with_text, text_set, made_last, whole_last}

-- a vector's length is a machine's number, and the list's
pub few : (v : Vec Value Global) → length v.items < 2 ^ 64
few v = let l = v.ok.0 in let r = v.ok.1 in let s = v.small in omega arith

pub within_vec : (v : Vec Value Global) (n : ℕ) → n < length v.items → n < vec_len v
within_vec v n w = subst (λ k. n < k) (sym v.ok.0) w

pub place_below : (f : ℕ) (ks : List ℕ) → member f ks ≡ true → place f ks < length ks
place_below f [] h = absurd (cc)
place_below f (k ∷ ks) h = elim (cases_Bool (nat_eq f k)) [
  | inl e ↦ rw e (omega arith)
  | inr e ↦ let r = rw e at h in let i = place_below f ks r in rw e (omega arith)
]

keys_zip : (ks : List ℕ) (cs : List Value) → length ks ≤ length cs → keys (zip ks cs) ≡ ks
keys_zip [] cs h = refl
keys_zip (k ∷ ks) [] h = absurd (omega arith)
keys_zip (k ∷ ks) (c ∷ cs) h = ap (λ t. k ∷ t) (keys_zip ks cs (omega arith))

field_got : (ks : List ℕ) (cs : List Value) (f : ℕ) → member f ks ≡ true → length ks ≤ length cs → look nat_eq Null (zip ks cs) f ≡ get_or cs (place f ks) Null
field_got [] cs f h w = absurd (cc)
field_got (k ∷ ks) [] f h w = absurd (omega arith)
field_got (k ∷ ks) (c ∷ cs) f h w = elim (cases_Bool (nat_eq f k)) [
  | inl e ↦ rw e refl
  | inr e ↦ let r = rw e at h in let i = field_got ks cs f r (omega arith) in rw e i
]

field_kept : (ks : List ℕ) (cs : List Value) (f : ℕ) (v : Value) → member f ks ≡ true → length ks ≤ length cs → zip ks (set cs (place f ks) v) ≡ keep nat_eq (zip ks cs) f v
field_kept [] cs f v h w = absurd (cc)
field_kept (k ∷ ks) [] f v h w = absurd (omega arith)
field_kept (k ∷ ks) (c ∷ cs) f v h w = elim (cases_Bool (nat_eq f k)) [
  | inl e ↦ rw e refl
  | inr e ↦ let r = rw e at h in let i = field_kept ks cs f v r (omega arith) in rw e (ap (λ t. (k, c) ∷ t) i)
]

length_keys : (fs : List (ℕ × Value)) → length (keys fs) ≡ length fs
length_keys [] = refl
length_keys (f ∷ fs) = ap suc (length_keys fs)

abbrev pub values_of : List (ℕ × Value) → List Value
values_of fs = map (λ x. x.1) fs

length_values : (fs : List (ℕ × Value)) → length (map (λ x. x.1) fs) ≡ length (keys fs)
length_values [] = refl
length_values (f ∷ fs) = ap suc (length_values fs)

-- only arrays have elements, and they have no fields
elems_alone : (p : Program) (k : Kind) (n : ℕ) → 0 < length (elems_of k n) → length (fields_of p k) ≡ 0
elems_alone p (Class c) n h = absurd (omega arith)
elems_alone p (Array d b) n h = refl

-- Where a field or element of an object stands among the cells.
pub record Cell (p : Program) (xs : List Entry) (cs : List Value) (n : ℕ) (v : Value) (changed : Value → List Object) : Type 0 where
  pub within : n < length cs
  pub value : get_or cs n Null ≡ v
  pub after : (w : Value) → objects_of p xs (set cs n w) ≡ changed w

-- the place of a cell by another name
pub moved : {p : Program} {xs : List Entry} {cs : List Value} {m n : ℕ} {v : Value} {changed : Value → List Object} → Cell p xs cs m v changed → n ≡ m → Cell p xs cs n v changed
moved {p} {xs} {cs} {m} {n} {v} {changed} k e = subst (λ i. Cell p xs cs i v changed) (sym e) k

abbrev pub made_of : Entry → List (ℕ × Value) → List Value → Object
made_of x fs es = record { head = x.head; fields = fs; elems = es; text = x.text }

abbrev pub blank_of : Head → List (ℕ × Value) → List Value → Object
blank_of h fs es = record { head = h; fields = fs; elems = es; text = None }

abbrev pub with_fields : Object → List (ℕ × Value) → Object
with_fields x fs = record x { fields = fs }

abbrev pub with_elems : Object → List Value → Object
with_elems x es = record x { elems = es }

field_made : (x : Entry) (ks : List ℕ) (s : List Value) (f : ℕ) (w : Value) → member f ks ≡ true → length ks ≤ length s →
    made_of x (zip ks (set s (place f ks) w)) (drop (length ks) (set s (place f ks) w)) ≡ made_of x (keep nat_eq (zip ks s) f w) (drop (length ks) s)
field_made x ks s f w m h =
    let k = place_below f ks m in
    ap (λ t. made_of x t (drop (length ks) (set s (place f ks) w))) (field_kept ks s f w m h) ∙ ap (λ t. made_of x (keep nat_eq (zip ks s) f w) t) (drop-set-lt (length ks) s (place f ks) w k)

elem_made : (x : Entry) (ks : List ℕ) (s : List Value) (i : ℕ) (w : Value) → ks ≡ [] → i < length s →
    made_of x (zip ks (set s i w)) (drop (length ks) (set s i w)) ≡ made_of x (zip ks s) (put_at Null (drop (length ks) s) i w)
elem_made x ks s i w e h = rw e (ap (λ t. made_of x [] t) (sym (put_at_is_set Null s i w h)))

length-own : (p : Program) (xs : List Entry) (cs : List Value) (o : ℕ) (x : Entry) → IsWhole p xs cs → o < length xs → x ≡ get_or xs o x → length (own_cells p x (before p xs o) cs) ≡ cell_count p x.head
length-own p xs cs o x h w q =
    let b : before p xs o + cell_count p x.head ≤ length cs = rw q (cells_within p xs cs o x h w) in
    let d = length-drop (before p xs o) cs in
    let m : cell_count p x.head ≤ length (drop (before p xs o) cs) = omega arith in
    length-take-le (cell_count p x.head) (drop (before p xs o) cs) m

-- a cell of an object
own_cell : (p : Program) (xs : List Entry) (cs : List Value) (o k : ℕ) (x : Entry) → IsWhole p xs cs → o < length xs → x ≡ get_or xs o x → k < cell_count p x.head →
    Cell p xs cs (x.start + k) (get_or (own_cells p x (before p xs o) cs) k Null) (λ w. set (objects_of p xs cs) o (object_of p x (set (own_cells p x (before p xs o) cs) k w)))
own_cell p xs cs o k x h w q n =
    let b : before p xs o + cell_count p x.head ≤ length cs = rw q (cells_within p xs cs o x h w) in
    let s : x.start ≡ before p xs o = ap (λ y. y.start) q ∙ start_at p xs cs o x h w in
    let m : k < cell_count p (get_or xs o x).head = rw (← q) n in
    record {
      within = omega arith;
      value = ap (λ t. get_or cs (t + k) Null) s ∙ sym (get_or-drop (before p xs o) cs k Null) ∙ sym (get_or-take (cell_count p x.head) (drop (before p xs o) cs) k Null n);
      after = λ v. ap (λ t. objects_of p xs (set cs (t + k) v)) s ∙ cell_set p xs cs o k x v w m ∙ ap (λ y. set (objects_of p xs cs) o (object_of p y (set (own_cells p y (before p xs o) cs) k v))) (sym q);
    }

keys_laid : (p : Program) (d : ℕ → Value) (fs : List ℕ) → keys (map (λ f. (f, d f)) fs) ≡ fs
keys_laid p d [] = refl
keys_laid p d (f ∷ fs) = ap (λ t. f ∷ t) (keys_laid p d fs)

-- a number is the place of a field in the objects of each class of a program
abbrev pub IsPlaceOf : Program → ℕ → ℕ → Type 0
IsPlaceOf p f n = (c : ℕ) → member f (layout p c) ≡ true → n ≡ place f (layout p c)

kind_place : (p : Program) (k : Kind) (f n : ℕ) → IsPlaceOf p f n → member f (keys (fields_of p k)) ≡ true → n ≡ place f (keys (fields_of p k))
kind_place p (Array d b) f n h m = absurd (cc)
kind_place p (Class c) f n h m =
    let e = keys_laid p (λ g. default_of (field_at p g).descriptor) (layout p c) in
    h c (ap (member f) (sym e) ∙ m) ∙ ap (place f) (sym e)

kind_held : (p : Program) (k : Kind) (f : ℕ) → member f (keys (fields_of p k)) ≡ true → IsHeld p f
kind_held p (Array d b) f m = absurd (cc)
kind_held p (Class c) f m =
    let e = keys_laid p (λ g. default_of (field_at p g).descriptor) (layout p c) in
    (c, ap (member f) (sym e) ∙ m)

-- an object's fields are those of its head
field_listed : (p : Program) (xs : List Entry) (cs : List Value) (o : ℕ) (x : Entry) (e : Object) (f : ℕ) → IsWhole p xs cs → o < length xs → x ≡ get_or xs o x →
    member f (keys (get_or (objects_of p xs cs) o e).fields) ≡ true → member f (field_numbers p x.head) ≡ true
field_listed p xs cs o x e f h w q m =
    let s = own_cells p x (before p xs o) cs in
    let ks = field_numbers p x.head in
    let l = length-own p xs cs o x h w q in
    let long : length ks ≤ length s = omega arith in
    let there : get_or (objects_of p xs cs) o e ≡ object_of p x s = object_there p xs cs o x e w ∙ ap (λ y. object_of p y (own_cells p y (before p xs o) cs)) (sym q) in
    ap (member f) (sym (keys_zip ks s long)) ∙ ap (λ y. member f (keys y.fields)) (sym there) ∙ m

pub field_held : (p t : Program) (xs : List Entry) (cs : List Value) (o : ℕ) (x : Entry) (e : Object) (f : ℕ) → t ≡ p → IsWhole p xs cs → o < length xs → x ≡ get_or xs o x →
    member f (keys (get_or (objects_of p xs cs) o e).fields) ≡ true → IsHeld t f
field_held p t xs cs o x e f same h w q m = subst (λ y. IsHeld y f) (sym same) (kind_held p x.head.kind f (field_listed p xs cs o x e f h w q m))

pub field_cell : (p t : Program) (xs : List Entry) (cs : List Value) (o : ℕ) (x : Entry) (e : Object) (f n : ℕ) → t ≡ p → IsPlaceOf t f n → IsWhole p xs cs → o < length xs → x ≡ get_or xs o x →
    member f (keys (get_or (objects_of p xs cs) o e).fields) ≡ true →
    Cell p xs cs (x.start + n) (look nat_eq Null (get_or (objects_of p xs cs) o e).fields f)
    (λ w. set (objects_of p xs cs) o (with_fields (get_or (objects_of p xs cs) o e) (keep nat_eq (get_or (objects_of p xs cs) o e).fields f w)))
field_cell p t xs cs o x e f n same at h w q m =
    let s = own_cells p x (before p xs o) cs in
    let ks = field_numbers p x.head in
    let l = length-own p xs cs o x h w q in
    let long : length ks ≤ length s = omega arith in
    let there : get_or (objects_of p xs cs) o e ≡ object_of p x s = object_there p xs cs o x e w ∙ ap (λ y. object_of p y (own_cells p y (before p xs o) cs)) (sym q) in
    let r : member f ks ≡ true = field_listed p xs cs o x e f h w q m in
    let b = place_below f ks r in
    let k : n ≡ place f ks = kind_place p x.head.kind f n (subst (λ y. IsPlaceOf y f n) same at) r in
    let c = own_cell p xs cs o n x h w q (omega arith) in
    record {
      within = c.within;
      value = c.value ∙ ap (λ y. get_or s y Null) k ∙ sym (field_got ks s f r long) ∙ ap (λ y. look nat_eq Null y.fields f) (sym there);
      after = λ v. c.after v ∙ ap (λ y. set (objects_of p xs cs) o (object_of p x (set s y v))) k ∙ ap (set (objects_of p xs cs) o) (field_made x ks s f v r long ∙ ap (λ y. with_fields y (keep nat_eq y.fields f v)) (sym there));
    }

pub elem_cell : (p : Program) (xs : List Entry) (cs : List Value) (o : ℕ) (x : Entry) (e : Object) (i : ℕ) → IsWhole p xs cs → o < length xs → x ≡ get_or xs o x →
    i < length (get_or (objects_of p xs cs) o e).elems →
    Cell p xs cs (x.start + i) (get_or (get_or (objects_of p xs cs) o e).elems i Null)
    (λ w. set (objects_of p xs cs) o (with_elems (get_or (objects_of p xs cs) o e) (put_at Null (get_or (objects_of p xs cs) o e).elems i w)))
elem_cell p xs cs o x e i h w q m =
    let s = own_cells p x (before p xs o) cs in
    let ks = field_numbers p x.head in
    let l = length-own p xs cs o x h w q in
    let there : get_or (objects_of p xs cs) o e ≡ object_of p x s = object_there p xs cs o x e w ∙ ap (λ y. object_of p y (own_cells p y (before p xs o) cs)) (sym q) in
    let d : length (get_or (objects_of p xs cs) o e).elems ≡ length s - length ks = ap (λ y. length y.elems) there ∙ length-drop (length ks) s in
    let z : 0 < length (elems_of x.head.kind x.head.length) = omega arith in
    let none : ks ≡ [] = nil_from_length ks (length_keys (fields_of p x.head.kind) ∙ elems_alone p x.head.kind x.head.length z) in
    let n : i < length s = omega arith in
    let c = own_cell p xs cs o i x h w q (omega arith) in
    let g : get_or s i Null ≡ get_or (drop (length ks) s) i Null = rw none refl in
    record {
      within = c.within;
      value = c.value ∙ g ∙ ap (λ y. get_or y.elems i Null) (sym there);
      after = λ v. c.after v ∙ ap (set (objects_of p xs cs) o) (elem_made x ks s i v none n ∙ ap (λ y. with_elems y (put_at Null y.elems i v)) (sym there));
    }

zip_back : (fs : List (ℕ × Value)) (es : List Value) → zip (keys fs) (map (λ x. x.1) fs ++ es) ≡ fs
zip_back [] es = refl
zip_back (f ∷ fs) es = ap (λ t. f ∷ t) (zip_back fs es)

drop_back : (fs : List (ℕ × Value)) (es : List Value) → drop (length (keys fs)) (map (λ x. x.1) fs ++ es) ≡ es
drop_back [] es = refl
drop_back (f ∷ fs) es = drop_back fs es

pub length-new_cells : (p : Program) (h : Head) → length (new_cells p h) ≡ cell_count p h
length-new_cells p h =
    length-append (values_of (fields_of p h.kind)) (elems_of h.kind h.length)
    ∙ ap (λ n. n + length (elems_of h.kind h.length)) (length_values (fields_of p h.kind))

-- a header over new cells is the new object
pub new_object : (p : Program) (x : Entry) (h : Head) → x.head ≡ h → x.text ≡ None → object_of p x (new_cells p h) ≡ blank p h
unfolding blank
new_object p x h e t =
    ap (λ y. object_of p (record { head = y; start = x.start; text = x.text }) (new_cells p h)) e
    ∙ ap (λ y. object_of p (record { head = h; start = x.start; text = y }) (new_cells p h)) t
    ∙ ap (λ y. blank_of h y (drop (length (field_numbers p h)) (new_cells p h))) (zip_back (fields_of p h.kind) (elems_of h.kind h.length))
    ∙ ap (λ y. blank_of h (fields_of p h.kind) y) (drop_back (fields_of p h.kind) (elems_of h.kind h.length))

-- a heap's view, and one with a part of an object changed
abbrev pub held : Program → List Object → Held
held p xs = record { program = p; objects = xs }

abbrev pub field_changed : Held → ℕ → ℕ → Value → Held
field_changed h o f v = record h { objects = set h.objects o (with_fields (get_or h.objects o no_object) (keep nat_eq (get_or h.objects o no_object).fields f v)) }

abbrev pub elem_changed : Held → ℕ → ℕ → Value → Held
elem_changed h o i v = record h { objects = set h.objects o (with_elems (get_or h.objects o no_object) (put_at Null (get_or h.objects o no_object).elems i v)) }

abbrev pub text_changed : Held → ℕ → List ℕ → Held
text_changed h o t = record h { objects = set h.objects o (record (get_or h.objects o no_object) { text = Some t }) }

pub got : (cs : List Value) (n : ℕ) (r v : Value) → r ≡ get_or cs n r → n < length cs → get_or cs n Null ≡ v → r ≡ v
got cs n r v e w g = e ∙ get_or_default cs n r Null w ∙ g

-- an object with another text
text_written : (p : Program) (xs : List Entry) (cs : List Value) (o : ℕ) (x : Entry) (u : Option (List ℕ)) (t : List ℕ) → o < length xs → x ≡ get_or xs o x → u ≡ Some t →
    held p (objects_of p (set xs o (with_text x u)) cs) ≡ text_changed (held p (objects_of p xs cs)) o t
text_written p xs cs o x u t w q e =
    ap (λ y. held p (objects_of p (set xs o (with_text x y)) cs)) e ∙ ap (λ y. held p (objects_of p (set xs o (with_text y (Some t))) cs)) q
    ∙ ap (held p) (text_set p xs cs o x no_object (Some t) w)

-- what a call on an object of a heap needs, by what the heap is seen as
module _ (p q : Program) (xs : List Entry) (cs : Vec Value Global) (is : IsHeap p q xs cs.items) {h : Held} (seen : held p (objects_of p xs cs.items) ≡ h) {o : ℕ} (low : o < length h.objects) where
  abbrev entry : Entry
  entry = get_or xs o no_entry

  abbrev object : Object
  object = get_or h.objects o no_object

  pub there : o < length xs
  there = let l = length-objects_of p xs cs.items in let m : length (objects_of p xs cs.items) ≡ length h.objects = ap (λ (y : Held). length y.objects) seen in omega arith

  here : entry ≡ get_or xs o entry
  here = get_or_default xs o no_entry entry there

  pub head_seen : entry.head ≡ object.head
  head_seen = ap (λ (y : Entry). y.head) here ∙ ap (λ (y : Object). y.head) (sym (object_there p xs cs.items o entry no_object there) ∙ ap (λ (y : Held). get_or y.objects o no_object) seen)

  pub text_seen : entry.text ≡ object.text
  text_seen = ap (λ (y : Entry). y.text) here ∙ ap (λ (y : Object). y.text) (sym (object_there p xs cs.items o entry no_object there) ∙ ap (λ (y : Held). get_or y.objects o no_object) seen)

  pub text_set_there : {ys : List Entry} (u : Option (List ℕ)) (t : List ℕ) → ys ≡ set xs o (with_text entry u) → u ≡ Some t → held p (objects_of p ys cs.items) ≡ text_changed h o t
  text_set_there u t e k = ap (λ y. held p (objects_of p y cs.items)) e ∙ text_written p xs cs.items o entry u t there here k ∙ ap (λ (y : Held). text_changed y o t) seen

  -- the heap with other objects
  pub with_objects : (ys : List Object) → held p ys ≡ record h { objects = ys }
  with_objects ys = ap (λ (y : Held). record y { objects = ys }) seen

  module _ (f : ℕ) (listed : member f (keys object.fields) ≡ true) where
    seen_field : member f (keys (get_or (objects_of p xs cs.items) o no_object).fields) ≡ true
    seen_field = subst (λ (y : Held). member f (keys (get_or y.objects o no_object).fields) ≡ true) (sym seen) listed

    pub field_known : IsHeld q f
    field_known = field_held p q xs cs.items o entry no_object f is.same is.whole there here seen_field

    pub field_there : {n m : ℕ} → IsPlaceOf q f n → m ≡ entry.start + n → Cell p xs cs.items m (look nat_eq Null object.fields f) (λ w. (field_changed h o f w).objects)
    field_there {n} {m} at e = subst (λ (y : Held). Cell p xs cs.items m (look nat_eq Null (get_or y.objects o no_object).fields f) (λ w. (field_changed y o f w).objects)) seen
        (moved (field_cell p q xs cs.items o entry no_object f n is.same at is.whole there here seen_field) e)

  pub elem_there : {i m : ℕ} → i < length object.elems → m ≡ entry.start + i → Cell p xs cs.items m (get_or object.elems i Null) (λ w. (elem_changed h o i w).objects)
  elem_there {i} {m} within e = subst (λ (y : Held). Cell p xs cs.items m (get_or (get_or y.objects o no_object).elems i Null) (λ w. (elem_changed y o i w).objects)) seen
      (moved (elem_cell p xs cs.items o entry no_object i is.whole there here (subst (λ (y : Held). i < length (get_or y.objects o no_object).elems) (sym seen) within)) e)

-- one more object of a heap
pub held_last : (p : Program) (xs : List Entry) (x : Entry) (cs : List Value) (h : Head) → IsWhole p xs cs → x.head ≡ h → x.text ≡ None →
    held p (objects_of p (xs ++ x ∷ []) (cs ++ new_cells p h)) ≡ held p (objects_of p xs cs ++ blank p h ∷ [])
held_last p xs x cs h w e t =
    let n : length (new_cells p h) ≡ cell_count p x.head = rw e (length-new_cells p h) in
    ap (held p) (made_last p xs x cs (new_cells p h) w.full n ∙ ap (λ y. objects_of p xs cs ++ y ∷ []) (new_object p x h e t))

pub cells_last : (p : Program) (xs : List Entry) (x : Entry) (cs : List Value) (h : Head) → IsWhole p xs cs → x.head ≡ h → x.start ≡ length cs → IsWhole p (xs ++ x ∷ []) (cs ++ new_cells p h)
cells_last p xs x cs h w e s = whole_last p xs x cs (new_cells p h) w s (rw e (length-new_cells p h))

abbrev pub last_on : Held → Head → Held
last_on y h = record y { objects = y.objects ++ blank y.program h ∷ [] }
