-- Entries of a pool by their indices, and the string constants that they make.
use Rattle.std.proofs.Common.{◌≡◌, ℕ, zero, suc, ◌<◌, ◌≤◌, List, [], ◌∷◌, ◌++◌, length, slice_get, Bool, true, false, cond, refl, sym, ◌∙◌, ap, arith, Option, Some, None, IfSome}
use Rattle.std.specs.Prelude.{flat_map, position, unwrap_or, slice_index_or}
use Rattle.std.specs.{List.list_any, Str.bytes_eq}
use Rattle.std.proofs.lemmas.List.{length-append, length_push, Quantifiers.position-Some}
use Rattle.class_pool.specs.{declared.pool.Entry.Entry, declared.pool.Entry.TheVariants.Str, Pool.entry_of}
use Rattle.class_reader.specs.declared.parts.ClassParts.{ClassParts}
use Rattle.class_link.specs.Literals.{string_in, strings_of, noted, literals, literal_number}
use Rattle.class_link.specs.Faults.{first_some}
use Rattle.class_link.proofs.Numbered.{if_some}

-- ---- entries

-- an entry's index is 1 and its place
pub record Standing (slots : List (Option Entry)) (i : ℕ) (e : Entry) : Type 0 where
  pub place : ℕ
  pub index : i ≡ suc place
  pub there : slice_get slots place ≡ Some (Some e)

at_index : (slots : List (Option Entry)) (k : ℕ) (e : Entry) → slice_index_or slots k None ≡ Some e → slice_get slots k ≡ Some (Some e)
at_index [] k e h = absurd (cc)
at_index (x ∷ xs) zero e h = ap (λ (o : Option Entry). Some o) h
at_index (x ∷ xs) (suc k) e h = at_index xs k e h

pub standing : (slots : List (Option Entry)) (i : ℕ) (e : Entry) → entry_of slots i ≡ Some e → Standing slots i e
standing slots zero e h = absurd (cc)
standing slots (suc k) e h = record { place = k; index = refl; there = at_index slots k e h }

-- ---- the first of several answers

abbrev pub some_or : {B : Type 0} → Option B → Option B → Option B
some_or o rest = elim o [ Some z ↦ Some z | None ↦ rest ]

pub none_both : {B : Type 0} (o rest : Option B) → some_or o rest ≡ None → (o ≡ None) × (rest ≡ None)
none_both None rest h = (refl, h)
none_both (Some z) rest h = absurd (cc)

pub first_none : {A B : Type 0} (f : A → Option B) (xs : List A) (i : ℕ) (x : A) → first_some f xs ≡ None → slice_get xs i ≡ Some x → f x ≡ None
first_none f [] i x h g = absurd (cc)
first_none f (y ∷ xs) zero x h g = let e : y ≡ x = cc in ap f (sym e) ∙ (none_both (f y) (first_some f xs) h).0
first_none f (y ∷ xs) (suc i) x h g = first_none f xs i x (none_both (f y) (first_some f xs) h).1 g

-- ---- string constants

flat_some : {A B : Type 0} (f : A → List B) (xs : List A) (i : ℕ) (x : A) → slice_get xs i ≡ Some x → 0 < length (f x) → 0 < length (flat_map f xs)
flat_some f [] i x h g = absurd (cc)
flat_some f (y ∷ xs) zero x h g = let e : y ≡ x = cc in let l = length-append (f y) (flat_map f xs) in let s : length (f y) ≡ length (f x) = ap (λ z. length (f z)) e in omega arith
flat_some f (y ∷ xs) (suc i) x h g = let l = length-append (f y) (flat_map f xs) in let s = flat_some f xs i x h g in omega arith

longer : (seen : List (List ℕ)) (x : List ℕ) (b : Bool) → length seen ≤ length (cond b seen (seen ++ x ∷ []))
longer seen x true = omega arith
longer seen x false = let l = length_push seen x in omega arith

noted_grows : (seen xs : List (List ℕ)) → length seen ≤ length (noted seen xs)
noted_grows seen [] = omega arith
noted_grows seen (x ∷ xs) = let a = longer seen x (list_any (bytes_eq x) seen) in let b = noted_grows (cond (list_any (bytes_eq x) seen) seen (seen ++ x ∷ [])) xs in omega arith

noted_some : (xs : List (List ℕ)) → 0 < length xs → 0 < length (noted [] xs)
noted_some [] h = h
noted_some (x ∷ xs) h = let g = noted_grows (x ∷ []) xs in omega arith

-- a String entry's number is that of a string constant
pub literal_within : (cs : List ClassParts) (i : ℕ) (c : ClassParts) (k text : ℕ) → slice_get cs i ≡ Some c → entry_of c.pool k ≡ Some (Str text) → (us : List ℕ) → literal_number (literals cs) us ≤ length (literals cs)
unfolding literals
literal_within cs i c k text h e us =
    let s = standing c.pool k (Str text) e in
    let one : 0 < length (strings_of c.pool) = flat_some (string_in c.pool) c.pool s.place (Some (Str text)) s.there (omega arith) in
    let some : 0 < length (literals cs) = noted_some _ (flat_some (λ (c : ClassParts). strings_of c.pool) cs i c h one) in
    by_place (position (bytes_eq us) (literals cs)) some (if_some (λ n. n < length (literals cs)) (position (bytes_eq us) (literals cs)) (λ n q. (position-Some (bytes_eq us) (literals cs) n [] q).0))
  where
    by_place : (o : Option ℕ) → 0 < length (literals cs) → IfSome o (λ n. n < length (literals cs)) → suc (unwrap_or o 0) ≤ length (literals cs)
    by_place None g q = omega arith
    by_place (Some n) g q = omega arith
