-- What one-to-one matchings give on locations, touches and worlds.
use Rattle.std.proofs.Common.{◌≡◌, ◌≢◌, ℕ, zero, suc, Bool, true, false, cond, List, [], ◌∷◌, ◌++◌, get_or, refl, sym, ◌∙◌, ap, subst, inl, inr, nat_eq, Option, Some, None}
use Rattle.std.proofs.lemmas.Bool.{cases_eq, cases_Bool, false_from_ne_true, eq-eqb, ne_eqb}
use Rattle.std.proofs.lemmas.Option.{same_Some}
use Rattle.jvm_model.specs.declared.values.{Value.Value, Value.TheVariants.Null, Location.Location, Touch.Touch}
use Rattle.jvm_model.specs.declared.values.Location.TheVariants as place
use Rattle.jvm_model.specs.World.{Object, Content, World, size, at, put, make_object, has, place_of, part, look, same, text_or_empty}
use Rattle.jvm_model.specs.Access.{given, given_by, write_of, fields_made, elems_made, text_made, made}
use Rattle.jvm_model.proofs.Locations.{same_true, same_refl, same_false, at_put_same, at_put_other, at_make_other, at_make_new, IsOf, is_of_cases}
use Rattle.order_law.specs.Exposed.{written, exposed}
use Rattle.order_law.specs.Pairing.{Matching, OneToOne, PairedList, no_more, one_more, PairedOption, both_none, both_some, PairedValue, ints, longs, nulls, literals, objects, PairedLocation, statics, inits, heads, at_field, at_elem, texts, files, props, PairedContent, PairedCell, PairedObject, PairedTouch}

pub list-append : {A B : Type 0} {R : A → B → Type 0} {xs ts : List A} {ys us : List B} → PairedList R xs ys → PairedList R ts us → PairedList R (xs ++ ts) (ys ++ us)
list-append no_more q = q
list-append (one_more r rs) q = one_more r (list-append rs q)

pub same_cond : {A : Type 0} (b c : Bool) {x y u v : A} → b ≡ c → x ≡ y → u ≡ v → cond b x u ≡ cond c y v
same_cond true true e p q = p
same_cond false false e p q = q
same_cond _ _ e p q = absurd (cc)

module _ (m : Matching) (op : OneToOne m.place) (of : OneToOne m.fields) (oc : OneToOne m.class) where
  pub partner : {L M M' : Location} → PairedLocation m L M → PairedLocation m L M' → M ≡ M'
  partner (statics p) (statics q) = ap place.Static (of.from_left _ _ _ p q)
  partner (inits p) (inits q) = ap place.Init (oc.from_left _ _ _ p q)
  partner (heads p) (heads q) = ap place.Head (op.from_left _ _ _ p q)
  partner (at_field p q) (at_field p' q') = let a = op.from_left _ _ _ p p' in let b = of.from_left _ _ _ q q' in cc
  partner (at_elem i p) (at_elem j q) = ap (λ (x : ℕ). place.Elem x i) (op.from_left _ _ _ p q)
  partner (texts p) (texts q) = ap place.Text (op.from_left _ _ _ p q)
  partner (files n) (files k) = refl
  partner (props n) (props k) = refl

  pub owner : {L L' M : Location} → PairedLocation m L M → PairedLocation m L' M → L ≡ L'
  owner (statics p) (statics q) = ap place.Static (of.from_right _ _ _ p q)
  owner (inits p) (inits q) = ap place.Init (oc.from_right _ _ _ p q)
  owner (heads p) (heads q) = ap place.Head (op.from_right _ _ _ p q)
  owner (at_field p q) (at_field p' q') = let a = op.from_right _ _ _ p p' in let b = of.from_right _ _ _ q q' in cc
  owner (at_elem i p) (at_elem j q) = ap (λ (x : ℕ). place.Elem x i) (op.from_right _ _ _ p q)
  owner (texts p) (texts q) = ap place.Text (op.from_right _ _ _ p q)
  owner (files n) (files k) = refl
  owner (props n) (props k) = refl

  pub same-paired : {L L' M M' : Location} → PairedLocation m L L' → PairedLocation m M M' → same L M ≡ same L' M'
  same-paired {L} {L'} {M} {M'} p q = elim (cases_Bool (same L M)) [
    | inl e ↦ let f : L ≡ M = same_true L M e in let g : L' ≡ M' = partner (subst (λ x. PairedLocation m x L') f p) q in
        let t : same M' M' ≡ true = same_refl M' in e ∙ sym (rw g t)
    | inr e ↦ e ∙ sym (false_from_ne_true (same L' M') (λ t. let g : L' ≡ M' = same_true L' M' t in
        same_false L M e (owner (subst (λ x. PairedLocation m L x) g p) q)))
  ]

  pub written-paired : {ts ts' : List Touch} {L L' : Location} → PairedList (PairedTouch m) ts ts' → PairedLocation m L L' → written ts L ≡ written ts' L'
  written-paired no_more q = refl
  written-paired (one_more {x} {y} r rs) q = let a = same-paired q r.location in let b = written-paired rs q in same_cond x.write y.write r.write (rw (a, b)) b

  -- two worlds after a write on both sides
  pub after_write : (w v : World) (L L' M M' : Location) (c : Content L) (d : Content L') → PairedLocation m L L' → has w L ≡ true → has v L' ≡ true →
      PairedContent m L L' c d → PairedLocation m M M' → (same M L ≡ false → PairedContent m M M' (at w M) (at v M')) →
      PairedContent m M M' (at (put w L c) M) (at (put v L' d) M')
  after_write w v L L' M M' c d p h h' pc q f = elim (cases_Bool (same M L)) [
    | inl e ↦ let g : M ≡ L = same_true M L e in let g' : M' ≡ L' = partner (subst (λ x. PairedLocation m x M') g q) p in
        rw (g, g') (rw (at_put_same w L c h, at_put_same v L' d h') pc)
    | inr e ↦ let n : M ≢ L = same_false M L e in
        let n' : M' ≢ L' = (λ g. n (owner q (subst (λ x. PairedLocation m L x) (sym g) p))) in
        rw (at_put_other w L M c n, at_put_other v L' M' d n') (f e)
  ]

  pub place-paired : {L M : Location} → PairedLocation m L M → PairedOption m.place (place_of L) (place_of M)
  place-paired (heads p) = both_some p
  place-paired (at_field p q) = both_some p
  place-paired (at_elem i p) = both_some p
  place-paired (texts p) = both_some p
  place-paired _ = both_none

  of_partner : {o o' : Option ℕ} {a b : ℕ} → PairedOption m.place o o' → m.place a b → o ≡ Some a → o' ≡ Some b
  of_partner both_none p e = absurd (cc)
  of_partner {b = b} (both_some {x = c} {y = d} q) p e = ap Some (op.from_left c d b q (subst (λ (x : ℕ). m.place x b) (same_Some _ _ (sym e)) p))

  of_owner : {o o' : Option ℕ} {a b : ℕ} → PairedOption m.place o o' → m.place a b → o' ≡ Some b → o ≡ Some a
  of_owner both_none p e = absurd (cc)
  of_owner {a = a} (both_some {x = c} {y = d} q) p e = ap Some (op.from_right c a d q (subst (λ (x : ℕ). m.place a x) (same_Some _ _ (sym e)) p))

  look-paired : {xs ys : List (ℕ × Value)} {f g : ℕ} → PairedList (PairedCell m) xs ys → m.fields f g → PairedValue m (look nat_eq Null xs f) (look nat_eq Null ys g)
  look-paired no_more q = nulls
  look-paired {f = f} {g = g} (one_more {x} {y} c r) q = elim (cases_eq f x.0) [
    | inl e ↦ let e' : g ≡ y.0 = of.from_left _ _ _ q (subst (λ (z : ℕ). m.fields z y.0) (sym e) c.number) in let b = eq-eqb f x.0 e in let b' = eq-eqb g y.0 e' in rw (b, b') c.value
    | inr n ↦ let n' : g ≢ y.0 = (λ e'. n (of.from_right _ _ _ (subst (λ (z : ℕ). m.fields f z) e' q) c.number)) in let b = ne_eqb f x.0 n in let b' = ne_eqb g y.0 n' in rw (b, b') (look-paired r q)
  ]

  get-paired : {xs ys : List Value} (i : ℕ) → PairedList (PairedValue m) xs ys → PairedValue m (get_or xs i Null) (get_or ys i Null)
  get-paired i no_more = nulls
  get-paired zero (one_more v r) = v
  get-paired (suc i) (one_more v r) = get-paired i r

  pub part-paired : {x y : Object} {L M : Location} → PairedObject m x y → PairedLocation m L M → PairedContent m L M (part x L) (part y M)
  part-paired o (statics p) = nulls
  part-paired o (heads p) = o.head
  part-paired o (at_field p q) = look-paired o.fields q
  part-paired o (at_elem i p) = get-paired i o.elems
  part-paired o (texts p) = ap text_or_empty o.text
  part-paired o _ = refl

  -- two worlds after an object was made on both sides
  pub after_make : (w v : World) (x y : Object) (M M' : Location) → PairedObject m x y → m.place (size w) (size v) → PairedLocation m M M' →
      ((IsOf M (size w) → ⊥) → PairedContent m M M' (at w M) (at v M')) →
      PairedContent m M M' (at (make_object w x) M) (at (make_object v y) M')
  after_make w v x y M M' px pp q f = elim (is_of_cases M (size w)) [
    | inl o ↦ let o' = of_partner (place-paired q) pp o in rw (at_make_new w x M o, at_make_new v y M' o') (part-paired px q)
    | inr n ↦ let n' : IsOf M' (size v) → ⊥ = (λ o. n (of_owner (place-paired q) pp o)) in rw (at_make_other w x M n, at_make_other v y M' n') (f n)
  ]

  value-given : {v w : Value} → PairedValue m v w → PairedOption m.place (given_by v) (given_by w)
  value-given (ints n) = both_none
  value-given (longs n) = both_none
  value-given nulls = both_none
  value-given (literals p) = both_none
  value-given (objects p) = both_some p

  pub given-paired : {L M : Location} → PairedLocation m L M → (c : Content L) (d : Content M) → PairedContent m L M c d → PairedOption m.place (given L c) (given M d)
  given-paired (statics p) c d r = value-given r
  given-paired (at_field p q) c d r = value-given r
  given-paired (at_elem i p) c d r = value-given r
  given-paired _ c d r = both_none

  pub writes-paired : {L M : Location} → PairedLocation m L M → PairedTouch m (write_of L) (write_of M)
  writes-paired p = record { write = refl; location = p; gave = both_none }

  fields_touched : {a b : ℕ} {xs ys : List (ℕ × Value)} → m.place a b → PairedList (PairedCell m) xs ys → PairedList (PairedTouch m) (fields_made a xs) (fields_made b ys)
  fields_touched p no_more = no_more
  fields_touched p (one_more c r) = one_more (writes-paired (at_field p c.number)) (fields_touched p r)

  elems_touched : {a b : ℕ} {xs ys : List Value} (i : ℕ) → m.place a b → PairedList (PairedValue m) xs ys → PairedList (PairedTouch m) (elems_made a i xs) (elems_made b i ys)
  elems_touched i p no_more = no_more
  elems_touched i p (one_more v r) = one_more (writes-paired (at_elem i p)) (elems_touched (suc i) p r)

  text_touched : {a b : ℕ} (t u : Option (List ℕ)) → m.place a b → t ≡ u → PairedList (PairedTouch m) (text_made a t) (text_made b u)
  text_touched None None p e = no_more
  text_touched (Some t) (Some u) p e = one_more (writes-paired (texts p)) no_more
  text_touched _ _ p e = absurd (cc)

  pub made_paired : {a b : ℕ} {x y : Object} {ts us : List Touch} → m.place a b → PairedObject m x y → PairedList (PairedTouch m) ts us → PairedList (PairedTouch m) (made a x ++ ts) (made b y ++ us)
  made_paired {x = x} {y = y} p o r = list-append (one_more (writes-paired (heads p)) (list-append (fields_touched p o.fields) (list-append (elems_touched 0 p o.elems) (text_touched x.text y.text p o.text)))) r

-- touches that write at one object alone
pub data OnlyOf (o : ℕ) : List Touch → Type 0 where
  none_of : OnlyOf o []
  more_of : (L : Location) {ts : List Touch} → IsOf L o → OnlyOf o ts → OnlyOf o (write_of L ∷ ts)

only-append : {o : ℕ} {xs ys : List Touch} → OnlyOf o xs → OnlyOf o ys → OnlyOf o (xs ++ ys)
only-append none_of q = q
only-append (more_of L e r) q = more_of L e (only-append r q)

fields_only : (o : ℕ) (xs : List (ℕ × Value)) → OnlyOf o (fields_made o xs)
fields_only o [] = none_of
fields_only o (x ∷ xs) = more_of (place.Field o x.0) refl (fields_only o xs)

elems_only : (o i : ℕ) (xs : List Value) → OnlyOf o (elems_made o i xs)
elems_only o i [] = none_of
elems_only o i (x ∷ xs) = more_of (place.Elem o i) refl (elems_only o (suc i) xs)

text_only : (o : ℕ) (t : Option (List ℕ)) → OnlyOf o (text_made o t)
text_only o None = none_of
text_only o (Some t) = more_of (place.Text o) refl none_of

made_only : (o : ℕ) (x : Object) → OnlyOf o (made o x)
made_only o x = more_of (place.Head o) refl (only-append (fields_only o x.fields) (only-append (elems_only o 0 x.elems) (text_only o x.text)))

of_other : {o : ℕ} {xs : List Touch} (ts : List Touch) (M : Location) → OnlyOf o xs → (IsOf M o → ⊥) → (written (xs ++ ts) M ≡ written ts M) × (exposed (xs ++ ts) M ≡ exposed ts M)
of_other ts M none_of n = (refl, refl)
of_other {o} ts M (more_of L i r) n = let q = of_other ts M r n in
    let e : same M L ≡ false = false_from_ne_true (same M L) (λ t. n (subst (λ x. IsOf x o) (sym (same_true M L t)) i)) in (rw e q.0, rw e q.1)

pub made_other : (o : ℕ) (x : Object) (ts : List Touch) (M : Location) → (IsOf M o → ⊥) → (written (made o x ++ ts) M ≡ written ts M) × (exposed (made o x ++ ts) M ≡ exposed ts M)
made_other o x ts M n = of_other ts M (made_only o x) n
