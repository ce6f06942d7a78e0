-- What a run doesn't write it leaves as it was.
use Rattle.std.proofs.Common.{◌≡◌, ◌⊎◌, ℕ, zero, suc, ◌+◌, Bool, true, false, cond, ◌||◌, List, [], ◌∷◌, ◌++◌, get_or, refl, sym, ◌∙◌, subst, inl, inr, arith, nat_eq, Option, Some, None}
use Rattle.std.proofs.lemmas.Bool.{cases_Bool, or_cases, or_parts, eqb-true}
use Rattle.jvm_model.specs.declared.values.{Value.Value, Value.TheVariants.Null, Location.Location, Touch.Touch}
use Rattle.jvm_model.specs.declared.values.Location.TheVariants as place
use Rattle.jvm_model.specs.World.{Object, World, no_object, size, at, put, make_object, look, part, same, text_or_empty}
use Rattle.jvm_model.specs.Access.{Access, done, read, write, make, spend, fields_made, elems_made, text_made, made, run}
use Rattle.jvm_model.proofs.Locations.{same_true, same_refl, same_false, at_put_other, at_make_other, at_make_new, IsOf, is_of_cases, at_past}
use Rattle.order_law.specs.Exposed.{written}
use Rattle.order_law.specs.Pairing.{Matching, PairedList, no_more, one_more, PairedLocation, PairedTouch}

-- what isn't written in two lists of touches isn't in either
by_write : (w s a b c : Bool) → cond w (s || c) c ≡ false → (c ≡ false → (a ≡ false) × (b ≡ false)) → (cond w (s || a) a ≡ false) × (b ≡ false)
by_write false s a b c e f = f e
by_write true s a b c e f = let q = or_parts s c e in let r = f q.1 in let x = q.0 in let y = r.0 in (rw (x, y), r.1)

pub append_unwritten : (xs ts : List Touch) (L : Location) → written (xs ++ ts) L ≡ false → (written xs L ≡ false) × (written ts L ≡ false)
append_unwritten [] ts L e = (refl, e)
append_unwritten (x ∷ xs) ts L e = by_write x.write (same L x.location) (written xs L) (written ts L) (written (xs ++ ts) L) e (λ h. append_unwritten xs ts L h)

fields_unwritten : (o f : ℕ) (xs : List (ℕ × Value)) → written (fields_made o xs) (place.Field o f) ≡ false → look nat_eq Null xs f ≡ Null
fields_unwritten o f [] e = refl
fields_unwritten o f (x ∷ xs) e = elim (cases_Bool (nat_eq f x.0)) [
  | inl b ↦ absurd (let a = (or_parts (same (place.Field o f) (place.Field o x.0)) _ e).0 in let g : f ≡ x.0 = eqb-true f x.0 b in
      let s : same (place.Field o f) (place.Field o x.0) ≡ true = subst (λ (z : ℕ). same (place.Field o f) (place.Field o z) ≡ true) g (same_refl (place.Field o f)) in cc)
  | inr b ↦ rw b (fields_unwritten o f xs (or_parts (same (place.Field o f) (place.Field o x.0)) _ e).1)
]

elems_unwritten : (o j k : ℕ) (xs : List Value) → written (elems_made o j xs) (place.Elem o (j + k)) ≡ false → get_or xs k Null ≡ Null
elems_unwritten o j k [] e = refl
elems_unwritten o j zero (x ∷ xs) e = absurd (let a = (or_parts (same (place.Elem o (j + 0)) (place.Elem o j)) _ e).0 in let z : j + 0 ≡ j = omega arith in
    let s : same (place.Elem o (j + 0)) (place.Elem o j) ≡ true = rw z (same_refl (place.Elem o j)) in cc)
elems_unwritten o j (suc k) (x ∷ xs) e = let a = (or_parts (same (place.Elem o (j + suc k)) (place.Elem o j)) _ e).1 in let z : j + suc k ≡ suc j + k = omega arith in
    elems_unwritten o (suc j) k xs (rw z at a)

text_unwritten : (o : ℕ) (t : Option (List ℕ)) → written (text_made o t) (place.Text o) ≡ false → text_or_empty t ≡ []
text_unwritten o None e = refl
text_unwritten o (Some t) e = absurd (let a = (or_parts (same (place.Text o) (place.Text o)) _ e).0 in let s = same_refl (place.Text o) in cc)

-- the cells of a new object, part by part
cells_unwritten : (o : ℕ) (x : Object) (L : Location) → written (made o x) L ≡ false →
    (written (fields_made o x.fields) L ≡ false) × (written (elems_made o 0 x.elems) L ≡ false) × (written (text_made o x.text) L ≡ false)
cells_unwritten o x L e = let a = (or_parts (same L (place.Head o)) _ e).1 in let b = append_unwritten (fields_made o x.fields) _ L a in let c = append_unwritten (elems_made o 0 x.elems) _ L b.1 in (b.0, c.0, c.1)

part_unwritten : (o : ℕ) (x : Object) (L : Location) → IsOf L o → written (made o x) L ≡ false → part x L ≡ part no_object L
part_unwritten o x (place.Head a) i e = absurd (let g : a ≡ o = cc in let b = (or_parts (same (place.Head a) (place.Head o)) _ e).0 in
    let s : same (place.Head a) (place.Head o) ≡ true = subst (λ (z : ℕ). same (place.Head a) (place.Head z) ≡ true) g (same_refl (place.Head a)) in cc)
part_unwritten o x (place.Text a) i e = let g : a ≡ o = cc in text_unwritten o x.text (subst (λ (z : ℕ). written (text_made o x.text) (place.Text z) ≡ false) g (cells_unwritten o x (place.Text a) e).2)
part_unwritten o x (place.Field a f) i e = let g : a ≡ o = cc in
    fields_unwritten o f x.fields (subst (λ (z : ℕ). written (fields_made o x.fields) (place.Field z f) ≡ false) g (cells_unwritten o x (place.Field a f) e).0)
part_unwritten o x (place.Elem a k) i e = let g : a ≡ o = cc in let z : k ≡ 0 + k = omega arith in
    elems_unwritten o 0 k x.elems (subst (λ (y : ℕ). written (elems_made o 0 x.elems) (place.Elem o y) ≡ false) z
    (subst (λ (z : ℕ). written (elems_made o 0 x.elems) (place.Elem z k) ≡ false) g (cells_unwritten o x (place.Elem a k) e).1))
part_unwritten o x _ i e = refl

made_leaves : (w : World) (x : Object) (L : Location) → written (made (size w) x) L ≡ false → at (make_object w x) L ≡ at w L
made_leaves w x L e = elim (is_of_cases L (size w)) [
  | inl o ↦ at_make_new w x L o ∙ part_unwritten (size w) x L o e ∙ sym (at_past w L (size w) o (omega arith))
  | inr n ↦ at_make_other w x L n
]

pub unwritten : {A : Type 0} (a : Access A) (w : World) (L : Location) → written (run a w).touches L ≡ false → at (run a w).world L ≡ at w L
unwritten (done a) w L e = refl
unwritten (read M k) w L e = unwritten (k (at w M)) w L e
unwritten (write M c rest) w L e = let q = or_parts (same L M) (written (run rest (put w M c)).touches L) e in
    unwritten rest (put w M c) L q.1 ∙ at_put_other w M L c (same_false L M q.0)
unwritten (make x k) w L e = let q = append_unwritten (made (size w) x) (run (k (size w)) (make_object w x)).touches L e in
    unwritten (k (size w)) (make_object w x) L q.1 ∙ made_leaves w x L q.0
unwritten (spend n rest) w L e = unwritten rest w L e

pub one_of : (w s a : Bool) → cond w (s || a) a ≡ true → (s ≡ true) ⊎ (a ≡ true)
one_of true s a e = or_cases s a e
one_of false s a e = inr e

-- a written location has a partner
pub written_partner : (m : Matching) {ts us : List Touch} (L : Location) → PairedList (PairedTouch m) ts us → written ts L ≡ true → (M : Location) × PairedLocation m L M
written_partner m L no_more e = absurd (cc)
written_partner m L (one_more {x} {y} {xs} r rs) e = elim (one_of x.write (same L x.location) (written xs L) e) [
  | inl s ↦ (y.location, subst (λ z. PairedLocation m z y.location) (sym (same_true L x.location s)) r.location)
  | inr s ↦ written_partner m L rs s
]
