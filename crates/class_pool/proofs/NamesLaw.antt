-- Argument types one after the other, as a loop takes them.
use Rattle.std.proofs.lemmas.Bool.{lt-ltb}
use Rattle.std.specs.{List.list_all, Option.option_and_then}
use Rattle.et_base.proofs.Cases.{by_test}
use Rattle.std.proofs.Common.{Bool, true, false, cond, eqb, ltb, ◌&&◌, ◌||◌, [], ◌∷◌, ◌≡◌, ℕ, suc, ◌-◌, ◌+◌, ◌≤◌, ◌<◌, List, Option, Some, None, sym, ap, ◌∙◌, arith, length, refl}
use Rattle.et_base.specs.Names.{is_plain, is_unqualified, parts_of, is_class_name, argument, after_close, closed, arguments, grown}

one_more : (n i so_far : ℕ) (us : List ℕ) (total : Option (ℕ × List ℕ)) → i < n → arguments (n - i) so_far us ≡ total
    → total ≡ closed so_far (after_close us) (option_and_then (λ x. arguments (n - (i + 1)) x.0 x.1) (argument so_far us))
unfolding arguments
one_more n i so_far us total lt so_far_is =
    let k : n - i ≡ suc (n - (i + 1)) = omega arith in
    sym so_far_is ∙ ap (λ m. arguments m so_far us) k

pub arguments_closed : (n i so_far : ℕ) (us after : List ℕ) (total : Option (ℕ × List ℕ)) → i < n → Some after ≡ after_close us → arguments (n - i) so_far us ≡ total → Some (so_far, after) ≡ total
arguments_closed n i so_far us after total lt close is =
    sym (one_more n i so_far us total lt is ∙ ap (λ o. closed so_far o (option_and_then (λ x. arguments (n - (i + 1)) x.0 x.1) (argument so_far us))) (sym close))

pub arguments_fail : (n i so_far : ℕ) (us : List ℕ) (total : Option (ℕ × List ℕ)) → i < n → None ≡ after_close us → None ≡ argument so_far us → arguments (n - i) so_far us ≡ total → None ≡ total
arguments_fail n i so_far us total lt close none is =
    sym (one_more n i so_far us total lt is ∙ ap (λ o. closed so_far o (option_and_then (λ x. arguments (n - (i + 1)) x.0 x.1) (argument so_far us))) (sym close) ∙ ap (λ a. option_and_then (λ x. arguments (n - (i + 1)) x.0 x.1) a) (sym none))

pub arguments_on : (n i so_far : ℕ) (us : List ℕ) (x : ℕ × List ℕ) (total : Option (ℕ × List ℕ)) → i < n → None ≡ after_close us → Some x ≡ argument so_far us → arguments (n - i) so_far us ≡ total → arguments (n - (i + 1)) x.0 x.1 ≡ total
arguments_on n i so_far us x total lt close more is =
    sym (one_more n i so_far us total lt is ∙ ap (λ o. closed so_far o (option_and_then (λ x. arguments (n - (i + 1)) x.0 x.1) (argument so_far us))) (sym close) ∙ ap (λ a. option_and_then (λ x. arguments (n - (i + 1)) x.0 x.1) a) (sym more))

pub arguments_out : (n i so_far : ℕ) (us : List ℕ) (total : Option (ℕ × List ℕ)) → n ≤ i → arguments (n - i) so_far us ≡ total → None ≡ total
unfolding arguments
arguments_out n i so_far us total le is =
    let k : n - i ≡ 0 = omega arith in
    sym (ap (λ m. arguments m so_far us) k) ∙ is

-- ---- names in internal form

-- the rest of a name; begun says that its first part has a unit before this rest
abbrev pub is_named_on : Bool → List ℕ → Bool
is_named_on begun [] = begun
is_named_on begun (u ∷ us) = cond (eqb u 47) (begun && is_named_on false us) (is_plain u && is_named_on true us)

-- the same of the parts
abbrev on_parts : Bool → List (List ℕ) → Bool
on_parts begun [] = begun
on_parts begun (part ∷ parts) = ((begun || ltb 0 (length part)) && list_all is_plain part) && list_all is_unqualified parts

parts_some : (us : List ℕ) → (part : List ℕ) × (parts : List (List ℕ)) × (parts_of us ≡ part ∷ parts)
parts_some [] = ([], [], refl)
parts_some (u ∷ us) = let p = parts_some us in by_test (eqb u 47) (λ h. ([], parts_of us, rw h refl)) (λ h. (u ∷ p.0, p.1, rw (h, p.2) refl))

on_slash : (begun : Bool) (us : List ℕ) → on_parts false (parts_of us) ≡ list_all is_unqualified (parts_of us)
on_slash begun us = let p = parts_some us in rw p.2 refl

started : (begun : Bool) (b : Bool) → (begun && b) ≡ (((begun || false) && true) && b)
started true b = refl
started false b = refl

grew : (begun a b c : Bool) → (a && (b && c)) ≡ (((begun || true) && (a && b)) && c)
grew true true b c = refl
grew true false b c = refl
grew false true b c = refl
grew false false b c = refl

pub named_parts : (us : List ℕ) (begun : Bool) → is_named_on begun us ≡ on_parts begun (parts_of us)
named_parts [] true = refl
named_parts [] false = refl
named_parts (u ∷ us) begun =
    let p = parts_some us in
    by_test (eqb u 47)
    (λ h. let e : is_named_on begun (u ∷ us) ≡ (begun && is_named_on false us) = rw h refl in
    let f : on_parts begun (parts_of (u ∷ us)) ≡ (((begun || false) && true) && list_all is_unqualified (parts_of us)) = rw h refl in
    e ∙ ap (λ b. begun && b) (named_parts us false ∙ on_slash false us) ∙ started begun _ ∙ sym f)
    (λ h. let e : is_named_on begun (u ∷ us) ≡ (is_plain u && is_named_on true us) = ap (λ b. cond b (begun && is_named_on false us) (is_plain u && is_named_on true us)) h in
    let f : on_parts begun (parts_of (u ∷ us)) ≡ on_parts begun (grown u (p.0 ∷ p.1)) = ap (λ b. on_parts begun (cond b ([] ∷ parts_of us) (grown u (parts_of us)))) h ∙ ap (λ (ps : List (List ℕ)). on_parts begun (grown u ps)) p.2 in
    let some : ltb 0 (length (u ∷ p.0)) ≡ true = lt-ltb _ _ (omega arith) in
    let g : on_parts begun (grown u (p.0 ∷ p.1)) ≡ (((begun || true) && (is_plain u && list_all is_plain p.0)) && list_all is_unqualified p.1) =
    ap (λ b. ((begun || b) && (is_plain u && list_all is_plain p.0)) && list_all is_unqualified p.1) some in
    e ∙ ap (λ b. is_plain u && b) (named_parts us true ∙ ap (on_parts true) p.2) ∙ grew begun (is_plain u) (list_all is_plain p.0) (list_all is_unqualified p.1) ∙ sym g ∙ sym f)

pub named_from : (us : List ℕ) → is_named_on false us ≡ is_class_name us
unfolding is_class_name
named_from us = named_parts us false ∙ on_slash false us
