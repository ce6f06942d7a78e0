-- Names stay names where one more comes, and so do their numbers.
use Rattle.std.proofs.Common.{◌≡◌, ◌<◌, ◌≤◌, ◌+◌, ℕ, zero, suc, Bool, true, false, cond, List, [], ◌∷◌, ◌++◌, length, length-append, refl, sym, ◌∙◌, ap, subst, arith, Option, None, Some, Bor, option_copied}
use Rattle.std.specs.{Map.lookup, Option.option_or, Str.bytes_eq}
use Rattle.std.specs.declared.vec.Vec.{Vec}
use Rattle.std.specs.declared.alloc.Global.{Global}
use Rattle.indexmap.specs.IndexMap.{insert_entry}
use Rattle.jvm_model.specs.World.{place_of, same}
use Rattle.jvm_model.specs.declared.values.Location.{Location}
use Rattle.sim_store.specs.declared.store.Part.{Part}
use Rattle.sim_store.specs.declared.store.Part.TheVariants as part
use Rattle.vm_mem.specs.Stores.{place_in}
use Rattle.access_tags.specs.AreNames.{AreNames, AreNumbers, Entry, IsIndexed, IsNumber}
use Rattle.access_tags.specs.Numbering.{position}

pub names_push : (xs : List Location) (L : Location) → place_of L ≡ None → AreNames xs → AreNames (xs ++ L ∷ [])
names_push [] L e a zero = e
names_push [] L e a (suc k) = refl
names_push (x ∷ xs) L e a zero = a 0
names_push (x ∷ xs) L e a (suc k) = names_push xs L e (λ j. a (suc j)) k

-- where a location stands once M stands last
position_there : (L M : Location) (ls : List Location) → position ls L < length ls → position (ls ++ M ∷ []) L ≡ position ls L
position_there L M [] h = absurd (omega (arith, h))
position_there L M (N ∷ ls) h = by (same L N) h (position_there L M ls)
  where
    by : (b : Bool) → cond b 0 (suc (position ls L)) < suc (length ls) → (position ls L < length ls → position (ls ++ M ∷ []) L ≡ position ls L) →
        cond b 0 (suc (position (ls ++ M ∷ []) L)) ≡ cond b 0 (suc (position ls L))
    by true k f = refl
    by false k f = ap suc (f (omega (arith, k)))

position_last : (L M : Location) (ls : List Location) → position ls L ≡ length ls → position (ls ++ M ∷ []) L ≡ length ls + cond (same L M) 0 1
position_last L M [] h = by (same L M)
  where
    by : (b : Bool) → cond b 0 1 ≡ 0 + cond b 0 1
    by true = refl
    by false = refl
position_last L M (N ∷ ls) h = by (same L N) h (position_last L M ls)
  where
    by : (b : Bool) → cond b 0 (suc (position ls L)) ≡ suc (length ls) → (position ls L ≡ length ls → position (ls ++ M ∷ []) L ≡ length ls + cond (same L M) 0 1) →
        cond b 0 (suc (position (ls ++ M ∷ []) L)) ≡ suc (length ls) + cond (same L M) 0 1
    by true k f = absurd (omega (arith, k))
    by false k f = let q = f (omega (arith, k)) in omega (arith, q)

-- the number once M stands last: as before, and else the last one where it is M
lookup_push : (t : List ℕ → Bool) (es : List Entry) (x : Entry) → lookup (λ k. t k.items) (es ++ x ∷ []) ≡ option_or (lookup (λ k. t k.items) es) (cond (t x.0.items) (Some x.1) None)
lookup_push t [] x = refl
lookup_push t (y ∷ es) x = by (t y.0.items) (lookup_push t es x)
  where
    by : (b : Bool) → lookup (λ k. t k.items) (es ++ x ∷ []) ≡ option_or (lookup (λ k. t k.items) es) (cond (t x.0.items) (Some x.1) None)
        → cond b (Some y.1) (lookup (λ k. t k.items) (es ++ x ∷ [])) ≡ option_or (cond b (Some y.1) (lookup (λ k. t k.items) es)) (cond (t x.0.items) (Some x.1) None)
    by true e = refl
    by false e = e

number_push : (ls : List Location) (L M : Location) (r : Option ℕ) (b : Bool) → same L M ≡ b → IsNumber ls L r → IsNumber (ls ++ M ∷ []) L (option_or r (cond b (Some (length ls)) None))
number_push ls L M None true e h = let l = length-append ls (M ∷ []) in let p = position_last L M ls h ∙ ap (λ (x : Bool). length ls + cond x 0 1) e in (omega (arith, p), omega (arith, l))
number_push ls L M None false e h = let l = length-append ls (M ∷ []) in let p = position_last L M ls h ∙ ap (λ (x : Bool). length ls + cond x 0 1) e in omega (arith, p, l)
number_push ls L M (Some k) b e h = let l = length-append ls (M ∷ []) in (position_there L M ls (omega (arith, h.0, h.1)) ∙ h.0, omega (arith, h.1, l))

-- the numbers of a part once a name of it stands last, and once one of the other part does
pub numbers_push : (x : Part) (ls : List Location) (es : List Entry) (key : Entry) → key.1 ≡ length ls → AreNumbers x ls es → AreNumbers x (ls ++ place_in x key.0.items ∷ []) (es ++ key ∷ [])
numbers_push x ls es key e a name = by x a
  where
    push : (L M : Location) → same L M ≡ bytes_eq name key.0.items → IsNumber ls L (lookup (λ k. bytes_eq name k.items) es) → IsNumber (ls ++ M ∷ []) L (lookup (λ k. bytes_eq name k.items) (es ++ key ∷ []))
    push L M s h = rw (lookup_push (bytes_eq name) es key) (rw e (number_push ls L M (lookup (λ k. bytes_eq name k.items) es) (bytes_eq name key.0.items) s h))

    by : (x : Part) → AreNumbers x ls es → IsNumber (ls ++ place_in x key.0.items ∷ []) (place_in x name) (lookup (λ k. bytes_eq name k.items) (es ++ key ∷ []))
    by part.File a = push (place_in part.File name) (place_in part.File key.0.items) refl (a name)
    by part.Prop a = push (place_in part.Prop name) (place_in part.Prop key.0.items) refl (a name)

pub numbers_other : (x : Part) (ls : List Location) (es : List Entry) (M : Location) → ((name : List ℕ) → same (place_in x name) M ≡ false) → AreNumbers x ls es → AreNumbers x (ls ++ M ∷ []) es
numbers_other x ls es M s a name = by (lookup (λ k. bytes_eq name k.items) es) (a name)
  where
    by : (r : Option ℕ) → IsNumber ls (place_in x name) r → IsNumber (ls ++ M ∷ []) (place_in x name) r
    by None h = number_push ls (place_in x name) M None false (s name) h
    by (Some k) h = number_push ls (place_in x name) M (Some k) false (s name) h

-- a name that isn't there has no number
new_none : (names : List Location) (L : Location) (r : Option ℕ) → position names L ≡ length names → IsNumber names L r → r ≡ None
new_none names L None e h = refl
new_none names L (Some k) e h = absurd (omega (arith, e, h.0, h.1))

-- so its entry stands last
insert_last : (key : Vec ℕ Global) (n : ℕ) (es : List Entry) → lookup (λ k. bytes_eq key.items k.items) es ≡ None → insert_entry (λ a b. bytes_eq a.items b.items) es key n ≡ es ++ (key, n) ∷ []
insert_last key n [] h = refl
insert_last key n (x ∷ es) h = by (bytes_eq key.items x.0.items) (insert_last key n es) h
  where
    by : (b : Bool) → (lookup (λ k. bytes_eq key.items k.items) es ≡ None → insert_entry (λ a b. bytes_eq a.items b.items) es key n ≡ es ++ (key, n) ∷ []) →
        cond b (Some x.1) (lookup (λ k. bytes_eq key.items k.items) es) ≡ None →
        cond b ((x.0, n) ∷ es) (x ∷ insert_entry (λ a b. bytes_eq a.items b.items) es key n) ≡ x ∷ (es ++ (key, n) ∷ [])
    by true f q = absurd (cc)
    by false f q = ap (λ (zs : List Entry). x ∷ zs) (f q)

-- the number that is found at a name, of names that are those of the type
module _ (x : Part) (xs ls : List Location) (es : List Entry) (n name : List ℕ) (r : Option (Bor ℕ)) (v : xs ≡ ls) (w : n ≡ name) (a : AreNumbers x xs es) (q : option_copied r ≡ lookup (λ k. bytes_eq n k.items) es) where
  seen : (k : Option ℕ) → option_copied r ≡ k → IsNumber ls (place_in x name) k
  seen k e = subst (λ (zs : List Location). IsNumber zs (place_in x name) k) v (subst (λ (m : List ℕ). IsNumber xs (place_in x m) k) w (subst (λ (o : Option ℕ). IsNumber xs (place_in x n) o) (sym q ∙ e) (a n)))

  pub number_found : (k : Bor ℕ) → r ≡ Some k → (k.now ≡ position ls (place_in x name)) × (k.now ≤ length ls)
  number_found k e = let h = seen (Some k.now) (ap option_copied e) in (sym h.0, omega (arith, h.1))

  pub number_missing : r ≡ None → length ls ≡ position ls (place_in x name)
  number_missing e = sym (seen None (ap option_copied e))

-- a name more
module _ (xs ls ms : List Location) (files props : List Entry) (key : Vec ℕ Global) (n : ℕ) (text : List ℕ) (v : xs ≡ ls) (d : text ≡ key.items) (e : n ≡ length ls) (i : IsIndexed xs files props) where
  last_number : (x : Part) (es fs : List Entry) → AreNumbers x xs es → position ls (place_in x key.items) ≡ length ls → fs ≡ insert_entry (λ a b. bytes_eq a.items b.items) es key n →
      AreNumbers x (xs ++ place_in x key.items ∷ []) fs
  last_number x es fs a p g =
      let new : position xs (place_in x key.items) ≡ length xs = subst (λ (zs : List Location). position zs (place_in x key.items) ≡ length zs) (sym v) p in
      let none = new_none xs (place_in x key.items) (lookup (λ k. bytes_eq key.items k.items) es) new (a key.items) in
      subst (λ (zs : List Entry). AreNumbers x (xs ++ place_in x key.items ∷ []) zs) (sym (g ∙ insert_last key n es none)) (numbers_push x xs es (key, n) (e ∙ ap length (sym v)) a)

  pub file_last : (fs : List Entry) → position ls (place_in part.File key.items) ≡ length ls → ms ≡ xs ++ place_in part.File text ∷ [] → fs ≡ insert_entry (λ a b. bytes_eq a.items b.items) files key n → IsIndexed ms fs props
  file_last fs p f g = subst (λ (zs : List Location). IsIndexed zs fs props) (sym (f ∙ ap (λ (t : List ℕ). xs ++ place_in part.File t ∷ []) d)) (record {
    none = names_push xs (place_in part.File key.items) refl i.none;
    file_numbers = last_number part.File files fs i.file_numbers p g;
    prop_numbers = numbers_other part.Prop xs props (place_in part.File key.items) (λ name. refl) i.prop_numbers;
  })

  pub prop_last : (ps : List Entry) → position ls (place_in part.Prop key.items) ≡ length ls → ms ≡ xs ++ place_in part.Prop text ∷ [] → ps ≡ insert_entry (λ a b. bytes_eq a.items b.items) props key n → IsIndexed ms files ps
  prop_last ps p f g = subst (λ (zs : List Location). IsIndexed zs files ps) (sym (f ∙ ap (λ (t : List ℕ). xs ++ place_in part.Prop t ∷ []) d)) (record {
    none = names_push xs (place_in part.Prop key.items) refl i.none;
    file_numbers = numbers_other part.File xs files (place_in part.Prop key.items) (λ name. refl) i.file_numbers;
    prop_numbers = last_number part.Prop props ps i.prop_numbers p g;
  })
