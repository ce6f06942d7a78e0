-- A string constant of a kept class is paired with that of its text.
use Rattle.std.proofs.Common.{◌≡◌, ℕ, zero, suc, ◌<◌, List, [], ◌∷◌, ◌++◌, length, get_or, slice_get, Bool, true, false, cond, nat_lt, refl, sym, ◌∙◌, ap, inl, inr, arith, Option, Some}
use Rattle.std.specs.Prelude.{flat_map, position, unwrap_or}
use Rattle.std.specs.{List.list_any, List.position_or_len, Str.bytes_eq}
use Rattle.std.proofs.lemmas.Bool.{cases_Bool, or_cases, or_left, or_right, lt-ltb}
use Rattle.std.proofs.{lemmas.List.Folds.list_any-append, lemmas.List.Sums.position_or_len_is}
use Rattle.et_base.proofs.Texts.{units_true, units_same}
use Rattle.class_pool.specs.declared.pool.Entry.TheVariants as entry
use Rattle.class_pool.specs.Pool.{entry_of}
use Rattle.class_reader.specs.declared.parts.ClassParts.{ClassParts}
use Rattle.class_link.specs.{ClassNames.text_at, Assembly.assembled, Assembly.skeleton}
use Rattle.class_link.specs.Literals.{string_in, strings_of, noted, literals, literal_number}
use Rattle.class_link.proofs.Pools.{standing}
use Rattle.impact_pick.proofs.ByNames.{LiteralPair, constants}

-- ---- a text among texts

any_left : (u : List ℕ) (xs ys : List (List ℕ)) → list_any (bytes_eq u) xs ≡ true → list_any (bytes_eq u) (xs ++ ys) ≡ true
any_left u xs ys e = list_any-append (bytes_eq u) xs ys ∙ or_left (list_any (bytes_eq u) xs) _ e

any_right : (u : List ℕ) (xs ys : List (List ℕ)) → list_any (bytes_eq u) ys ≡ true → list_any (bytes_eq u) (xs ++ ys) ≡ true
any_right u xs ys e = list_any-append (bytes_eq u) xs ys ∙ or_right (list_any (bytes_eq u) xs) _ e

any_flat : {A : Type 0} (u : List ℕ) (f : A → List (List ℕ)) (xs : List A) (k : ℕ) (x : A) → slice_get xs k ≡ Some x → list_any (bytes_eq u) (f x) ≡ true → list_any (bytes_eq u) (flat_map f xs) ≡ true
any_flat u f [] k x e h = absurd (cc)
any_flat u f (y ∷ xs) zero x e h = let q : y ≡ x = cc in any_left u (f y) (flat_map f xs) (ap (λ z. list_any (bytes_eq u) (f z)) q ∙ h)
any_flat u f (y ∷ xs) (suc k) x e h = any_right u (f y) (flat_map f xs) (any_flat u f xs k x e h)

noted_kept : (u : List ℕ) (seen xs : List (List ℕ)) → list_any (bytes_eq u) seen ≡ true → list_any (bytes_eq u) (noted seen xs) ≡ true
noted_kept u seen [] e = e
noted_kept u seen (x ∷ xs) e = noted_kept u (cond (list_any (bytes_eq x) seen) seen (seen ++ x ∷ [])) xs (by_test (list_any (bytes_eq x) seen))
  where
    by_test : (b : Bool) → list_any (bytes_eq u) (cond b seen (seen ++ x ∷ [])) ≡ true
    by_test true = e
    by_test false = any_left u seen (x ∷ []) e

noted_new : (u : List ℕ) (seen xs : List (List ℕ)) → list_any (bytes_eq u) xs ≡ true → list_any (bytes_eq u) (noted seen xs) ≡ true
noted_new u seen [] e = absurd (cc)
noted_new u seen (x ∷ xs) e = elim (or_cases (bytes_eq u x) (list_any (bytes_eq u) xs) e) [
  | inr h ↦ noted_new u (cond (list_any (bytes_eq x) seen) seen (seen ++ x ∷ [])) xs h
  | inl h ↦ noted_kept u (cond (list_any (bytes_eq x) seen) seen (seen ++ x ∷ [])) xs (by_test (list_any (bytes_eq x) seen) refl h)
]
  where
    by_test : (b : Bool) → list_any (bytes_eq x) seen ≡ b → bytes_eq u x ≡ true → list_any (bytes_eq u) (cond b seen (seen ++ x ∷ [])) ≡ true
    by_test true f h = let q = units_true u x h in ap (λ z. list_any (bytes_eq z) seen) q ∙ f
    by_test false f h = any_right u seen (x ∷ []) (or_left (bytes_eq u x) false h)

-- the first place at which a text stands
record FirstAt (u : List ℕ) (xs : List (List ℕ)) : Type 0 where
  place : ℕ
  within : place < length xs
  is : bytes_eq u (get_or xs place []) ≡ true
  before : (k : ℕ) → k < place → bytes_eq u (get_or xs k []) ≡ false

first_at : (u : List ℕ) (xs : List (List ℕ)) → list_any (bytes_eq u) xs ≡ true → FirstAt u xs
first_at u [] e = absurd (cc)
first_at u (x ∷ xs) e = elim (cases_Bool (bytes_eq u x)) [
  | inl t ↦ record { place = 0; within = omega arith; is = t; before = λ k h. absurd (omega arith) }
  | inr f ↦
      let r = first_at u xs (rw f at e) in
      let w = r.within in
      record { place = suc r.place; within = omega arith; is = r.is; before = earlier r f }
]
  where
    earlier : (r : FirstAt u xs) → bytes_eq u x ≡ false → (k : ℕ) → k < suc r.place → bytes_eq u (get_or (x ∷ xs) k []) ≡ false
    earlier r f zero h = f
    earlier r f (suc k) h = r.before k (omega arith)

pub record Placed (u : List ℕ) (xs : List (List ℕ)) : Type 0 where
  pub place : ℕ
  pub within : place < length xs
  pub is : get_or xs place [] ≡ u
  pub number : literal_number xs u ≡ suc place

placed : (u : List ℕ) (xs : List (List ℕ)) → list_any (bytes_eq u) xs ≡ true → Placed u xs
placed u xs e =
    let r = first_at u xs e in
    let w = r.within in
    let p : position_or_len (bytes_eq u) xs ≡ r.place = position_or_len_is (bytes_eq u) xs r.place [] (omega arith) r.before (λ _. r.is) in
    let l : nat_lt r.place (length xs) ≡ true = lt-ltb r.place (length xs) w in
    let z : position (bytes_eq u) xs ≡ Some r.place = rw (p, l) refl in
    record { place = r.place; within = w; is = sym (units_true u (get_or xs r.place []) r.is); number = ap (λ (o : Option ℕ). suc (unwrap_or o 0)) z }

-- ---- string constants

-- the text of a String entry stands among the string constants
pub text_listed : (cs : List ClassParts) (i k text : ℕ) (c : ClassParts) → slice_get cs i ≡ Some c → entry_of c.pool k ≡ Some (entry.Str text) → Placed (text_at c.pool text) (literals cs)
unfolding literals
text_listed cs i k text c h e =
    let s = standing c.pool k (entry.Str text) e in
    let u = text_at c.pool text in
    let one : list_any (bytes_eq u) (strings_of c.pool) ≡ true = any_flat u (string_in c.pool) c.pool s.place (Some (entry.Str text)) s.there (or_left (bytes_eq u u) false (units_same u u refl)) in
    placed u _ (noted_new u [] (flat_map (λ (x : ClassParts). strings_of x.pool) cs) (any_flat u (λ (x : ClassParts). strings_of x.pool) cs i c h one))

pub literal_alike : (cs ds : List ClassParts) (keeps : ℕ → Bool) (i k text : ℕ) (c : ClassParts) → slice_get cs i ≡ Some c → slice_get ds i ≡ Some c → entry_of c.pool k ≡ Some (entry.Str text) →
    LiteralPair keeps (skeleton cs) (skeleton ds) (literal_number (literals cs) (text_at c.pool text)) (literal_number (literals ds) (text_at c.pool text))
unfolding assembled
literal_alike cs ds keeps i k text c h g e =
    let a = text_listed cs i k text c h e in
    let b = text_listed ds i k text c g e in
    rw (a.number, b.number) (constants a.place b.place a.within b.within (a.is ∙ sym b.is))
