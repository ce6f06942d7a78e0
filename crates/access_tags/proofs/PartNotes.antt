-- Touches of the parts of a world, noted at their numbers.
use Rattle.std.proofs.Common.{◌≡◌, ℕ, zero, suc, ◌+◌, ◌<◌, true, false, cond, List, [], ◌∷◌, ◌++◌, length, get_or, nat_eq, take, map, Option, None, refl, sym, ◌∙◌, ap, subst, arith, append_assoc}
use Rattle.std.specs.List.{list_any}
use Rattle.std.proofs.{Math.Bool.or-true, Math.ListN.get_or-map, Math.Seq.take-length}
use Rattle.std.proofs.lemmas.Bool.{eq-eqb}
use Rattle.std.proofs.lemmas.List.{append-nil, length-map, length-take-le, take_more}
use Rattle.jvm_model.specs.declared.program.Program.{Program}
use Rattle.jvm_model.specs.declared.values.{Head.Head, Kind.Kind, Location.Location, Touch.Touch, Value.Value}
use Rattle.jvm_model.specs.declared.values.Kind.TheVariants as kind
use Rattle.jvm_model.specs.declared.values.Location.TheVariants as place
use Rattle.jvm_model.specs.Access.{elems_made, fields_made, made, text_made, write_of}
use Rattle.jvm_model.specs.Classes.{blank, default_of, elems_of, field_at, fields_of, layout, member}
use Rattle.jvm_model.specs.View.{Exists, keys}
use Rattle.jvm_model.specs.World.{World, Object, size, object_at, same}
use Rattle.access_tags.specs.declared.conflict.LocationKey.{LocationKey}
use Rattle.access_tags.specs.declared.conflict.LocationKey.TheVariants as spot
use Rattle.access_tags.specs.declared.numbers.Numbers.{Numbers}
use Rattle.access_tags.specs.declared.tags.Tags.{Tags}
use Rattle.vm_tables.specs.FieldPlaces.{place as place_of_field}
use Rattle.access_tags.specs.Followed.{HaveNoted, IsNumbered, numbering_in}
use Rattle.access_tags.specs.Numbering.{Numbering, IsAt, IsPlaced, is_name, is_named, located, position}
use Rattle.access_tags.specs.{Stands.Stands, Worlds.cells_of, Worlds.number_in}
use Rattle.access_tags.proofs.Spread.{numbers_law}

-- a spot that is no name is a location whatever the names
pub spot_alone : (names : List Location) (s : LocationKey) → is_name s ≡ false → located names s ≡ located [] s
spot_alone names (spot.Named k) e = absurd (cc)
spot_alone names _ e = refl

not_named : (s : LocationKey) → is_name s ≡ false → is_named (located [] s) ≡ false
not_named (spot.Named k) e = absurd (cc)
not_named _ e = refl

pub placed : (w : World) (names : List Location) (s : LocationKey) (n : ℕ) → is_name s ≡ false → Exists w (located [] s) → n ≡ number_in w (located [] s) → IsPlaced (numbering_in w names) (record { spot = s; at = n })
placed w names s n e h a =
    let L = located [] s in
    let q : is_named L ≡ false = not_named s e in
    let st = numbers_law w L q h in
    let k : is_named L ≡ is_name s = q ∙ sym e in
    let l : n ≡ position (cond (is_named L) names (cells_of w)) L = rw q (a ∙ sym st.at) in
    let t : list_any (same L) (cond (is_named L) names (cells_of w)) ≡ true = rw q st.there in
    subst (λ (M : Location). IsAt (numbering_in w names) (record { spot = s; at = n }) M) (sym (spot_alone names s e)) (record { kind = k; at = l; there = t })

pub noted_after : (n : Numbering) (a b c : Tags) (xs ys zs : List Touch) → zs ≡ xs ++ ys → HaveNoted n a b xs → HaveNoted n b c ys → HaveNoted n a c zs
noted_after n a b c xs ys zs e f g T t ts s = subst (λ (us : List Touch). Stands n T t us c) (append_assoc ts xs ys ∙ ap (λ (us : List Touch). ts ++ us) (sym e)) (g T t (ts ++ xs) (f T t ts s))

fields_append : (o : ℕ) (xs : List (ℕ × Value)) (x : ℕ × Value) → fields_made o (xs ++ x ∷ []) ≡ fields_made o xs ++ write_of (place.Field o x.0) ∷ []
fields_append o [] x = refl
fields_append o (y ∷ xs) x = ap (λ (us : List Touch). write_of (place.Field o y.0) ∷ us) (fields_append o xs x)

pub fields_more : (o : ℕ) (xs : List (ℕ × Value)) (i : ℕ) (d : ℕ × Value) → i < length xs → fields_made o (take (i + 1) xs) ≡ fields_made o (take i xs) ++ write_of (place.Field o (get_or xs i d).0) ∷ []
fields_more o xs i d h = ap (λ (ys : List (ℕ × Value)). fields_made o ys) (take_more xs i d h) ∙ fields_append o (take i xs) (get_or xs i d)

elems_append : (o a : ℕ) (xs : List Value) (x : Value) → elems_made o a (xs ++ x ∷ []) ≡ elems_made o a xs ++ write_of (place.Elem o (a + length xs)) ∷ []
elems_append o a [] x = let e : a ≡ a + 0 = omega arith in ap (λ (n : ℕ). write_of (place.Elem o n) ∷ []) e
elems_append o a (y ∷ xs) x = let e : suc a + length xs ≡ a + length (y ∷ xs) = omega arith in
    ap (λ (us : List Touch). write_of (place.Elem o a) ∷ us) (elems_append o (suc a) xs x ∙ ap (λ (n : ℕ). elems_made o (suc a) xs ++ write_of (place.Elem o n) ∷ []) e)

pub elems_more : (o : ℕ) (xs : List Value) (i : ℕ) (d : Value) → i < length xs → elems_made o 0 (take (i + 1) xs) ≡ elems_made o 0 (take i xs) ++ write_of (place.Elem o i) ∷ []
elems_more o xs i d h = let l = length-take-le i xs (omega arith) in let e : 0 + length (take i xs) ≡ i = omega arith in
    ap (λ (ys : List Value). elems_made o 0 ys) (take_more xs i d h) ∙ (elems_append o 0 (take i xs) (get_or xs i d) ∙ ap (λ (n : ℕ). elems_made o 0 (take i xs) ++ write_of (place.Elem o n) ∷ []) e)

member_here : (ks : List ℕ) (i d : ℕ) → i < length ks → member (get_or ks i d) ks ≡ true
member_here [] i d h = absurd (omega arith)
member_here (k ∷ ks) zero d h = rw (eq-eqb k k refl) refl
member_here (k ∷ ks) (suc i) d h = rw (member_here ks i d (omega arith)) (or-true (nat_eq (get_or ks i d) k))

-- the field of an entry is there
pub field_there : (w : World) (o i : ℕ) (xs : List (ℕ × Value)) (x : ℕ × Value) → o < size w → keys (object_at w o).fields ≡ keys xs → i < length xs → Exists w (place.Field o (get_or xs i x).0)
field_there w o i xs x h e l = (h, rw e (keyed xs i x l))
  where
    keyed : (xs : List (ℕ × Value)) (i : ℕ) (x : ℕ × Value) → i < length xs → member (get_or xs i x).0 (keys xs) ≡ true
    keyed xs i x l = let k : length (keys xs) ≡ length xs = length-map xs (λ (y : ℕ × Value). y.0) in
        let g : get_or (keys xs) i x.0 ≡ (get_or xs i x).0 = get_or-map (λ (y : ℕ × Value). y.0) xs i x in
        rw (← g) (member_here (keys xs) i x.0 (omega arith))

-- the loops over the fields and the elements of a new object
pub fields_noted : (w : World) (names : List Location) (k : Numbers) (a b g : Tags) (o i : ℕ) (xs : List (ℕ × Value)) (d : ℕ × Value) → i < length xs →
    ((w : World) (names : List Location) (x : Touch) → IsNumbered w k → is_name (spot.Field o (get_or xs i d).0) ≡ false → Exists w (located [] (spot.Field o (get_or xs i d).0)) → x.write ≡ true
    → x.location ≡ located [] (spot.Field o (get_or xs i d).0) → HaveNoted (numbering_in w names) b g (x ∷ [])) →
    IsNumbered w k → o < size w → keys (object_at w o).fields ≡ keys xs → HaveNoted (numbering_in w names) a b (fields_made o (take i xs)) → HaveNoted (numbering_in w names) a g (fields_made o (take (i + 1) xs))
fields_noted w names k a b g o i xs d l told n h e f =
    let x = write_of (place.Field o (get_or xs i d).0) in
    noted_after (numbering_in w names) a b g (fields_made o (take i xs)) (x ∷ []) (fields_made o (take (i + 1) xs)) (fields_more o xs i d l) f (told w names x n refl (field_there w o i xs d h e l) refl refl)

pub elems_noted : (w : World) (names : List Location) (k : Numbers) (a b g : Tags) (o i : ℕ) (d : Value) → i < length (object_at w o).elems →
    ((w : World) (names : List Location) (x : Touch) → IsNumbered w k → is_name (spot.Elem o i) ≡ false → Exists w (located [] (spot.Elem o i)) → x.write ≡ true
    → x.location ≡ located [] (spot.Elem o i) → HaveNoted (numbering_in w names) b g (x ∷ [])) →
    IsNumbered w k → o < size w → HaveNoted (numbering_in w names) a b (elems_made o 0 (take i (object_at w o).elems)) → HaveNoted (numbering_in w names) a g (elems_made o 0 (take (i + 1) (object_at w o).elems))
elems_noted w names k a b g o i d l told n h f =
    let x = write_of (place.Elem o i) in let xs = (object_at w o).elems in
    noted_after (numbering_in w names) a b g (elems_made o 0 (take i xs)) (x ∷ []) (elems_made o 0 (take (i + 1) xs)) (elems_more o xs i d l) f (told w names x n refl (h, l) refl refl)

pub all_fields : (n : Numbering) (a b : Tags) (o i : ℕ) (xs : List (ℕ × Value)) → i ≡ length xs → HaveNoted n a b (fields_made o (take i xs)) → HaveNoted n a b (fields_made o xs)
all_fields n a b o i xs e f = subst (λ (ys : List (ℕ × Value)). HaveNoted n a b (fields_made o ys)) (ap (λ (j : ℕ). take j xs) e ∙ take-length xs) f

pub all_elems : (n : Numbering) (a b : Tags) (o i : ℕ) (xs : List Value) → i ≡ length xs → HaveNoted n a b (elems_made o 0 (take i xs)) → HaveNoted n a b (elems_made o 0 xs)
all_elems n a b o i xs e f = subst (λ (ys : List Value). HaveNoted n a b (elems_made o 0 ys)) (ap (λ (j : ℕ). take j xs) e ∙ take-length xs) f

-- what making an object writes, one part after the other
pub made_noted : (n : Numbering) (a b c d : Tags) (o : ℕ) (x : Object) → x.text ≡ None → HaveNoted n a b (write_of (place.Head o) ∷ []) → HaveNoted n b c (fields_made o x.fields) → HaveNoted n c d (elems_made o 0 x.elems) → HaveNoted n a d (made o x)
made_noted n a b c d o x t f g h =
    let e : elems_made o 0 x.elems ++ text_made o x.text ≡ elems_made o 0 x.elems = ap (λ (z : Option (List ℕ)). elems_made o 0 x.elems ++ text_made o z) t ∙ append-nil (elems_made o 0 x.elems) in
    let q : made o x ≡ write_of (place.Head o) ∷ (fields_made o x.fields ++ elems_made o 0 x.elems) = ap (λ (us : List Touch). write_of (place.Head o) ∷ (fields_made o x.fields ++ us)) e in
    noted_after n a b d (write_of (place.Head o) ∷ []) (fields_made o x.fields ++ elems_made o 0 x.elems) (made o x) q f
    (noted_after n b c d (fields_made o x.fields) (elems_made o 0 x.elems) (fields_made o x.fields ++ elems_made o 0 x.elems) refl g h)

-- the parts of a new object
pub blank_parts : (p : Program) (x : Head) → (keys (blank p x).fields ≡ keys (fields_of p x.kind)) × (length (blank p x).elems ≡ length (elems_of x.kind x.length)) × ((blank p x).text ≡ None) × ((blank p x).fields ≡ fields_of p x.kind)
unfolding blank
blank_parts p x = (refl, refl, refl, refl)

-- the place of a field among those of its object
layout_keys : (g : ℕ → Value) (fs : List ℕ) → keys (map (λ f. (f, g f)) fs) ≡ fs
layout_keys g [] = refl
layout_keys g (f ∷ fs) = ap (λ (ks : List ℕ). f ∷ ks) (layout_keys g fs)

pub field_number : (w : World) (k : Numbers) (o f n : ℕ) → IsNumbered w k → Exists w (place.Field o f) → ((c : ℕ) → member f (layout k.places c) ≡ true → n ≡ place_of_field f (layout k.places c)) →
    n ≡ place_of_field f (keys (object_at w o).fields)
field_number w k o f n i e g = by_kind (object_at w o).head.kind ((i.laid o e.0).fields)
  where
    by_kind : (x : Kind) → keys (object_at w o).fields ≡ keys (fields_of k.places x) → n ≡ place_of_field f (keys (object_at w o).fields)
    by_kind (kind.Class c) q = let s : keys (object_at w o).fields ≡ layout k.places c = q ∙ layout_keys (λ f. default_of (field_at k.places f).descriptor) (layout k.places c) in
        rw s (g c (subst (λ (ks : List ℕ). member f ks ≡ true) s e.1))
    by_kind (kind.Array d b) q = absurd (let z : member f [] ≡ true = subst (λ (ks : List ℕ). member f ks ≡ true) q e.1 in cc)
