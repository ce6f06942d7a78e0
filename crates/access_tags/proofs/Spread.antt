-- Where the locations of a world stand among them.
use Rattle.std.proofs.Common.{◌≡◌, ◌≢◌, ℕ, zero, suc, ◌+◌, ◌-◌, ◌<◌, ◌≤◌, true, false, ◌||◌, List, [], ◌∷◌, ◌++◌, length, get_or, map, refl, sym, ◌∙◌, ap, subst, arith, nat_eq, inl, inr, Some, length-append}
use Rattle.std.specs.List.{list_any, range_with_len}
use Rattle.std.proofs.lemmas.Bool.{cases_Bool, cases_eq, eq-eqb, ne_eqb, or_from}
use Rattle.std.proofs.lemmas.{List.length-map, Option.same_Some}
use Rattle.std.proofs.lemmas.List.Folds.{list_any-append}
use Rattle.jvm_model.specs.declared.values.{Location.Location, Value.Value}
use Rattle.jvm_model.specs.declared.values.Location.TheVariants as place
use Rattle.jvm_model.specs.World.{Object, World, same, place_of, no_object, object_at, size}
use Rattle.jvm_model.specs.{Classes.member, View.keys}
use Rattle.jvm_model.proofs.Locations.{same_true}
use Rattle.vm_tables.specs.FieldPlaces.{place as place_in}
use Rattle.access_tags.specs.Numbering.{position}
use Rattle.access_tags.specs.Worlds.{parts, all_parts, statics_of, states_of, cells_of, width, bases, base_of, number_in, StandsAt, NumbersLaw}
use Rattle.access_tags.proofs.More.{any_more, position_more}

-- in the first of two lists, and in the second
pub on_left : (ls ms : List Location) (L : Location) (n : ℕ) → StandsAt ls L n → StandsAt (ls ++ ms) L n
on_left ls ms L n s = record { at = position_more L ls ms s.there ∙ s.at; there = any_more L ls ms s.there }

skip : (ls ms : List Location) (L : Location) → list_any (same L) ls ≡ false → position (ls ++ ms) L ≡ length ls + position ms L
skip [] ms L h = omega arith
skip (M ∷ ls) ms L h = elim (cases_Bool (same L M)) [
  | inl e ↦ absurd (let z : (same L M || list_any (same L) ls) ≡ true = rw e refl in cc)
  | inr e ↦ rw e (let g = skip ls ms L (rw e at h) in omega arith)
]

pub on_right : (ls ms : List Location) (L : Location) (n m : ℕ) → list_any (same L) ls ≡ false → StandsAt ms L n → m ≡ length ls + n → StandsAt (ls ++ ms) L m
on_right ls ms L n m h s e = record {
  at = let g = skip ls ms L h in let k = s.at in omega arith;
  there = list_any-append (same L) ls ms ∙ rw h s.there;
}

pub next : (M : Location) (ls : List Location) (L : Location) (n m : ℕ) → same L M ≡ false → StandsAt ls L n → m ≡ n + 1 → StandsAt (M ∷ ls) L m
next M ls L n m h s e = record { at = rw h (let k = s.at in omega arith); there = rw h s.there }

-- in a range
pub in_range : (mk : ℕ → Location) → ((i j : ℕ) → same (mk i) (mk j) ≡ nat_eq i j) → (n a f : ℕ) → a ≤ f → f < a + n → StandsAt (map mk (range_with_len a n)) (mk f) (f - a)
in_range mk s zero a f lo hi = absurd (omega arith)
in_range mk s (suc n) a f lo hi = elim (cases_eq f a) [
  | inl e ↦ let q : same (mk f) (mk a) ≡ true = s f a ∙ eq-eqb f a e in record { at = rw q (omega arith); there = rw q refl }
  | inr d ↦ let q : same (mk f) (mk a) ≡ false = s f a ∙ ne_eqb f a d in
      next (mk a) (map mk (range_with_len (a + 1) n)) (mk f) (f - (a + 1)) (f - a) q (in_range mk s n (a + 1) f (omega arith) (omega arith)) (omega arith)
]

-- among the fields
in_fields : (o f : ℕ) (ks : List ℕ) → member f ks ≡ true → StandsAt (map (λ k. place.Field o k) ks) (place.Field o f) (place_in f ks)
in_fields o f [] h = absurd (cc)
in_fields o f (k ∷ ks) h = let z : same (place.Field o f) (place.Field o k) ≡ nat_eq f k = rw (eq-eqb o o refl) refl in elim (cases_Bool (nat_eq f k)) [
  | inl e ↦ record { at = rw z (rw e refl); there = rw z (rw e refl) }
  | inr e ↦ let r = in_fields o f ks (rw e at h) in record { at = rw z (rw e (ap suc r.at)); there = rw z (rw e r.there) }
]

-- a list of one kind of locations has none of another
pub none_in : (L : Location) (mk : ℕ → Location) (ns : List ℕ) → ((i : ℕ) → same L (mk i) ≡ false) → list_any (same L) (map mk ns) ≡ false
none_in L mk [] f = refl
none_in L mk (i ∷ ns) f = rw (f i) (none_in L mk ns f)

-- the parts of an object
pub head_at : (o : ℕ) (x : Object) → StandsAt (parts o x) (place.Head o) 0
head_at o x = record { at = rw (eq-eqb o o refl) refl; there = rw (eq-eqb o o refl) refl }

pub text_at : (o : ℕ) (x : Object) → StandsAt (parts o x) (place.Text o) 1
text_at o x = record { at = rw (eq-eqb o o refl) refl; there = rw (eq-eqb o o refl) refl }

pub field_at : (o f : ℕ) (x : Object) → member f (keys x.fields) ≡ true → StandsAt (parts o x) (place.Field o f) (2 + place_in f (keys x.fields))
field_at o f x h = let r = on_left (map (λ k. place.Field o k) (keys x.fields)) (map (λ i. place.Elem o i) (range_with_len 0 (length x.elems))) (place.Field o f) (place_in f (keys x.fields)) (in_fields o f (keys x.fields) h) in
    next (place.Head o) _ (place.Field o f) (1 + place_in f (keys x.fields)) (2 + place_in f (keys x.fields)) refl (next (place.Text o) _ (place.Field o f) (place_in f (keys x.fields)) (1 + place_in f (keys x.fields)) refl r (omega arith)) (omega arith)

pub elem_at : (o i : ℕ) (x : Object) → i < length x.elems → StandsAt (parts o x) (place.Elem o i) (2 + (length x.fields + i))
elem_at o i x h =
    let a : (i j : ℕ) → same (place.Elem o i) (place.Elem o j) ≡ nat_eq i j = λ i j. rw (eq-eqb o o refl) refl in
    let r = in_range (λ i. place.Elem o i) a (length x.elems) 0 i (omega arith) (omega arith) in
    let l = length-map (keys x.fields) (λ (k : ℕ). place.Field o k) in
    let k = length-map x.fields (λ (y : ℕ × Value). y.0) in
    let s = on_right (map (λ k. place.Field o k) (keys x.fields)) (map (λ i. place.Elem o i) (range_with_len 0 (length x.elems))) (place.Elem o i) (i - 0) (length x.fields + i)
    (none_in (place.Elem o i) (λ k. place.Field o k) (keys x.fields) (λ k. refl)) r (omega arith) in
    next (place.Head o) _ (place.Elem o i) (1 + (length x.fields + i)) (2 + (length x.fields + i)) refl (next (place.Text o) _ (place.Elem o i) (length x.fields + i) (1 + (length x.fields + i)) refl s (omega arith)) (omega arith)

ranged : (n a : ℕ) → length (range_with_len a n) ≡ n
ranged zero a = refl
ranged (suc n) a = ap suc (ranged n (a + 1))

pub length-parts : (o : ℕ) (x : Object) → length (parts o x) ≡ width x
length-parts o x =
    let e = length-append (map (λ (k : ℕ). place.Field o k) (keys x.fields)) (map (λ (i : ℕ). place.Elem o i) (range_with_len 0 (length x.elems))) in
    let l = length-map (keys x.fields) (λ (k : ℕ). place.Field o k) in
    let k = length-map x.fields (λ (y : ℕ × Value). y.0) in
    let m = length-map (range_with_len 0 (length x.elems)) (λ (i : ℕ). place.Elem o i) in
    let r = ranged (length x.elems) 0 in
    omega arith

-- another object's parts
of_other : (L M : Location) (o a : ℕ) → place_of L ≡ Some o → place_of M ≡ Some a → o ≢ a → same L M ≡ false
of_other L M o a e f d = elim (cases_Bool (same L M)) [
  | inl s ↦ absurd (d (same_Some o a (sym e ∙ (ap (λ (N : Location). place_of N) (same_true L M s) ∙ f))))
  | inr s ↦ s
]

other_object : (L : Location) (o a : ℕ) (x : Object) → place_of L ≡ Some o → o ≢ a → list_any (same L) (parts a x) ≡ false
other_object L o a x e d = or_from _ _ (of_other L (place.Head a) o a e refl d) (or_from _ _ (of_other L (place.Text a) o a e refl d)
    (list_any-append (same L) (map (λ k. place.Field a k) (keys x.fields)) (map (λ i. place.Elem a i) (range_with_len 0 (length x.elems)))
    ∙ or_from _ _ (none_in L (λ k. place.Field a k) (keys x.fields) (λ k. of_other L (place.Field a k) o a e refl d)) (none_in L (λ i. place.Elem a i) (range_with_len 0 (length x.elems)) (λ i. of_other L (place.Elem a i) o a e refl d))))

bases_low : (b : ℕ) (xs : List Object) (k : ℕ) → k < length xs → b ≤ get_or (bases b xs) k 0
bases_low b [] k h = absurd (omega arith)
bases_low b (x ∷ xs) zero h = omega arith
bases_low b (x ∷ xs) (suc k) h = let g = bases_low (b + width x) xs k (omega arith) in omega arith

-- a part of an object among the parts of all, by the object's first number
pub part_at : (xs : List Object) (a b k n m : ℕ) (L : Location) → k < length xs → place_of L ≡ Some (a + k) → StandsAt (parts (a + k) (get_or xs k no_object)) L n → m + b ≡ get_or (bases b xs) k 0 + n → StandsAt (all_parts a xs) L m
part_at [] a b k n m L h e s q = absurd (omega arith)
part_at (x ∷ xs) a b zero n m L h e s q = let z : a + 0 ≡ a = omega arith in let y : n ≡ m = omega arith in
    on_left (parts a x) (all_parts (suc a) xs) L m (subst (λ (j : ℕ). StandsAt (parts a x) L j) y (subst (λ (j : ℕ). StandsAt (parts j x) L n) z s))
part_at (x ∷ xs) a b (suc k) n m L h e s q = let z : a + suc k ≡ suc a + k = omega arith in let l = length-parts a x in
    let lo = bases_low (b + width x) xs k (omega arith) in
    on_right (parts a x) (all_parts (suc a) xs) L (m - width x) m (other_object L (a + suc k) a x e (λ w. absurd (omega arith)))
    (part_at xs (suc a) (b + width x) k n (m - width x) L (omega arith) (e ∙ ap (λ (j : ℕ). Some j) z) (subst (λ (j : ℕ). StandsAt (parts j (get_or xs k no_object)) L n) z s) (omega arith)) (omega arith)

-- the locations of a world
pub length-statics : (w : World) → length (statics_of w) ≡ length w.statics
length-statics w = length-map (range_with_len 0 (length w.statics)) (λ (f : ℕ). place.Static f) ∙ ranged (length w.statics) 0

pub length-states : (w : World) → length (states_of w) ≡ length w.states
length-states w = length-map (range_with_len 0 (length w.states)) (λ (c : ℕ). place.Init c) ∙ ranged (length w.states) 0

pub static_number : (w : World) (f : ℕ) → f < length w.statics → StandsAt (cells_of w) (place.Static f) f
static_number w f h = let e : f - 0 ≡ f = omega arith in
    on_left (statics_of w) (states_of w ++ all_parts 0 w.objects) (place.Static f) f (subst (λ (n : ℕ). StandsAt (statics_of w) (place.Static f) n) e (in_range (λ f. place.Static f) (λ i j. refl) (length w.statics) 0 f (omega arith) (omega arith)))

pub state_number : (w : World) (c : ℕ) → c < length w.states → StandsAt (cells_of w) (place.Init c) (length w.statics + c)
state_number w c h = let l = length-statics w in
    on_right (statics_of w) (states_of w ++ all_parts 0 w.objects) (place.Init c) (c - 0) (length w.statics + c) (none_in (place.Init c) (λ f. place.Static f) (range_with_len 0 (length w.statics)) (λ f. refl))
    (on_left (states_of w) (all_parts 0 w.objects) (place.Init c) (c - 0) (in_range (λ c. place.Init c) (λ i j. refl) (length w.states) 0 c (omega arith) (omega arith))) (omega arith)

-- a part of an object, by the object's first number
part_number : (w : World) (o n m : ℕ) (L : Location) → o < size w → place_of L ≡ Some o → ((f : ℕ) → same L (place.Static f) ≡ false) → ((c : ℕ) → same L (place.Init c) ≡ false) →
    StandsAt (parts o (object_at w o)) L n → m ≡ get_or (bases (length w.statics + length w.states) w.objects) o 0 + n → StandsAt (cells_of w) L m
part_number w o n m L h e f g s q =
    let l = length-statics w in let k = length-states w in
    let b = length w.statics + length w.states in
    let z : 0 + o ≡ o = omega arith in
    let lo = bases_low b w.objects o h in
    let r = part_at w.objects 0 b o n (m - b) L h (e ∙ ap (λ (j : ℕ). Some j) (sym z)) (subst (λ (j : ℕ). StandsAt (parts j (object_at w o)) L n) (sym z) s) (omega arith) in
    on_right (statics_of w) (states_of w ++ all_parts 0 w.objects) L (length w.states + (m - b)) m (none_in L (λ f. place.Static f) (range_with_len 0 (length w.statics)) f)
    (on_right (states_of w) (all_parts 0 w.objects) L (m - b) (length w.states + (m - b)) (none_in L (λ c. place.Init c) (range_with_len 0 (length w.states)) g) r (omega arith)) (omega arith)

pub numbers_law : NumbersLaw
numbers_law w (place.Static f) k h = static_number w f h
numbers_law w (place.Init c) k h = state_number w c h
numbers_law w (place.Head o) k h = part_number w o 0 (base_of w o) (place.Head o) h refl (λ f. refl) (λ c. refl) (head_at o (object_at w o)) (omega arith)
numbers_law w (place.Text o) k h = part_number w o 1 (base_of w o + 1) (place.Text o) h refl (λ f. refl) (λ c. refl) (text_at o (object_at w o)) refl
numbers_law w (place.Field o f) k h = part_number w o (2 + place_in f (keys (object_at w o).fields)) (number_in w (place.Field o f)) (place.Field o f) h.0 refl (λ f. refl) (λ c. refl) (field_at o f (object_at w o) h.1) refl
numbers_law w (place.Elem o i) k h = part_number w o (2 + (length (object_at w o).fields + i)) (number_in w (place.Elem o i)) (place.Elem o i) h.0 refl (λ f. refl) (λ c. refl) (elem_at o i (object_at w o) h.1) refl
numbers_law w _ k h = absurd (cc)
