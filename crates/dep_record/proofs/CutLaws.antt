-- Bytes cut at a separator: where it stands, and what the parts are.
use Rattle.std.proofs.Common.{◌≡◌, ℕ, suc, ◌+◌, Bool, true, false, not, eqb, List, [], ◌∷◌, ◌++◌, length, take, drop, Option, Some, None, refl, sym, ap, ◌∙◌, arith}
use Rattle.std.specs.Prelude.{nat_lt}
use Rattle.std.specs.List.{position, position_or_len, slice_split, onto_first, list_all}
use Rattle.std.proofs.lemmas.Bool.{ltb-true, ltb-false, lt-ltb, le-ltb, and_parts, eqb-true, not-true}
use Rattle.std.proofs.lemmas.Option.{same_Some}
use Rattle.dep_record.specs.Fields.{cut, onto}

-- the parts of bytes at a place
abbrev pub cut_parts : List ℕ → Option ℕ → Option (List ℕ × List ℕ)
cut_parts bs None = None
cut_parts bs (Some i) = Some (take i bs, drop (i + 1) bs)

abbrev is : ℕ → ℕ → Bool
is s b = eqb b s

parts_on : (b : ℕ) (bs : List ℕ) (p q : ℕ) → q ≡ suc p → onto b (cut_parts bs (Some p)) ≡ cut_parts (b ∷ bs) (Some q)
parts_on b bs p q e =
    let front : take q (b ∷ bs) ≡ b ∷ take p bs = ap (λ k. take k (b ∷ bs)) e in
    let next : q + 1 ≡ suc (p + 1) = omega arith in
    let back : drop (q + 1) (b ∷ bs) ≡ drop (p + 1) bs = ap (λ k. drop k (b ∷ bs)) next in
    ap (λ t. Some (t, drop (p + 1) bs)) (sym front) ∙ ap (λ t. Some (take q (b ∷ bs), t)) (sym back)

cut_step : (s b : ℕ) (bs : List ℕ) (hit within : Bool) → eqb b s ≡ hit → nat_lt (position_or_len (is s) bs) (length bs) ≡ within → cut s bs ≡ cut_parts bs (position (is s) bs) → cut s (b ∷ bs) ≡ cut_parts (b ∷ bs) (position (is s) (b ∷ bs))
cut_step s b bs true within h w more =
    let some : nat_lt 0 (length (b ∷ bs)) ≡ true = lt-ltb 0 (length (b ∷ bs)) (omega arith) in
    rw (h, some) refl
cut_step s b bs false true h w more =
    let lt : nat_lt (1 + position_or_len (is s) bs) (length (b ∷ bs)) ≡ true = lt-ltb _ _ (omega (arith, ltb-true _ _ w)) in
    let step : onto b (cut s bs) ≡ onto b (cut_parts bs (position (is s) bs)) = ap (onto b) more in
    let begun = rw w at step in
    rw (h, lt) (begun ∙ parts_on b bs (position_or_len (is s) bs) (1 + position_or_len (is s) bs) (omega arith))
cut_step s b bs false false h w more =
    let le : nat_lt (1 + position_or_len (is s) bs) (length (b ∷ bs)) ≡ false = le-ltb _ _ (omega (arith, ltb-false _ _ w)) in
    let step : onto b (cut s bs) ≡ onto b (cut_parts bs (position (is s) bs)) = ap (onto b) more in
    rw (h, le) (rw w at step)

-- where bytes are cut
pub cut_is : (s : ℕ) (bs : List ℕ) → cut s bs ≡ cut_parts bs (position (λ b. eqb b s) bs)
cut_is s [] = refl
cut_is s (b ∷ bs) = cut_step s b bs (eqb b s) (nat_lt (position_or_len (is s) bs) (length bs)) refl refl (cut_is s bs)

-- ---- the parts

onto_whole : (s b : ℕ) (bs : List ℕ) (parts : Option (List ℕ × List ℕ)) (x : List ℕ × List ℕ) → ((y : List ℕ × List ℕ) → parts ≡ Some y → bs ≡ y.0 ++ s ∷ y.1) → onto b parts ≡ Some x → b ∷ bs ≡ x.0 ++ s ∷ x.1
onto_whole s b bs None x more h = absurd cc
onto_whole s b bs (Some y) x more h = let e = more y refl in cc

whole_step : (s b : ℕ) (bs : List ℕ) (hit : Bool) (x : List ℕ × List ℕ) → eqb b s ≡ hit → ((y : List ℕ × List ℕ) → cut s bs ≡ Some y → bs ≡ y.0 ++ s ∷ y.1) → cut s (b ∷ bs) ≡ Some x → b ∷ bs ≡ x.0 ++ s ∷ x.1
whole_step s b bs true x h more e =
    let whole : Some ([], bs) ≡ Some x = rw h at e in
    ap (λ c. c ∷ bs) (eqb-true b s h) ∙ ap (λ (y : List ℕ × List ℕ). y.0 ++ s ∷ y.1) (same_Some ([], bs) x whole)
whole_step s b bs false x h more e = onto_whole s b bs (cut s bs) x more (rw h at e)

-- the parts and the separator are all
pub cut_whole : (s : ℕ) (bs : List ℕ) (x : List ℕ × List ℕ) → cut s bs ≡ Some x → bs ≡ x.0 ++ s ∷ x.1
cut_whole s [] x h = absurd cc
cut_whole s (b ∷ bs) x h = whole_step s b bs (eqb b s) x refl (cut_whole s bs) h

-- a text with no separator, before one
abbrev pub has_none : ℕ → List ℕ → Bool
has_none s bs = list_all (λ b. not (eqb b s)) bs

pub cut_first : (s : ℕ) (front rest : List ℕ) → has_none s front ≡ true → cut s (front ++ s ∷ rest) ≡ Some (front, rest)
cut_first s [] rest h = let e : eqb s s ≡ true = grind arith in rw e refl
cut_first s (b ∷ front) rest h =
    let a = and_parts _ _ h in
    let no : eqb b s ≡ false = not-true _ a.0 in
    rw no (ap (onto b) (cut_first s front rest a.1))

-- ---- pieces between separators

abbrev pub parts_of : ℕ → List ℕ → List (List ℕ)
parts_of s bs = slice_split (λ b. eqb b s) bs

-- the pieces by the first cut
abbrev pub pieces_by : ℕ → List ℕ → Option (List ℕ × List ℕ) → List (List ℕ)
pieces_by s bs None = bs ∷ []
pieces_by s bs (Some x) = x.0 ∷ parts_of s x.1

onto_pieces : (s b : ℕ) (bs : List ℕ) (parts : Option (List ℕ × List ℕ)) → onto_first b (pieces_by s bs parts) ≡ pieces_by s (b ∷ bs) (onto b parts)
onto_pieces s b bs None = refl
onto_pieces s b bs (Some x) = refl

pieces_step : (s b : ℕ) (bs : List ℕ) (hit : Bool) → eqb b s ≡ hit → parts_of s bs ≡ pieces_by s bs (cut s bs) → parts_of s (b ∷ bs) ≡ pieces_by s (b ∷ bs) (cut s (b ∷ bs))
pieces_step s b bs true h more = rw h refl
pieces_step s b bs false h more = rw h (ap (onto_first b) more ∙ onto_pieces s b bs (cut s bs))

pub pieces_are : (s : ℕ) (bs : List ℕ) → parts_of s bs ≡ pieces_by s bs (cut s bs)
pieces_are s [] = refl
pieces_are s (b ∷ bs) = pieces_step s b bs (eqb b s) refl (pieces_are s bs)
