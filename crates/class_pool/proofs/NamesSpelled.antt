-- Descriptors: what is read of them is their grammar, and the other way.
use Rattle.std.proofs.{Math.Bool.or-true, lemmas.List.Sums.sum_by-cons, lemmas.Slice.Eq.bytes_eq-Decides, Math.ListN.replicate}
use Rattle.std.specs.{Str.bytes_eq, Option.option_and_then, Option.option_map, List.AllByRecursion, List.position_or_len, List.concat, List.sum_by}
use Rattle.std.proofs.Common.{◌≡◌, ℕ, zero, suc, ◌+◌, ◌<◌, ◌≤◌, Bool, true, false, not, cond, eqb, ltb, leb, ◌&&◌, ◌||◌, ◌⊎◌, inl, inr, List, [], ◌∷◌, ◌++◌, length, take, drop, Option, Some, None, refl, sym, ap, subst, ◌∙◌, append_assoc, arith, position, add-zero, IsTrue, IfSome, ◌↔◌}
use Rattle.std.proofs.lemmas.Bool.{eqb-true, ltb-true, lt-ltb, leb-true, le-leb, ltb-false, le-ltb, and_parts, or_cases}
use Rattle.std.proofs.lemmas.List.{take_at, drop_at, length-append, append-nil, length-replicate}
use Rattle.et_base.specs.Names.{is_plain, is_class_name, is_base, after_class, after_element, after_type, ends, is_field_descriptor, after_close, closed, argument, arguments, argument_units, is_return, units_of_type}
use Rattle.class_pool.specs.NamesGrammar.{IsElement, IsFieldType, IsMethodType}
use Rattle.et_base.proofs.Cases.{by_test, ends_some}
use Rattle.class_pool.proofs.NamesLaw.{is_named_on, named_from}

-- ---- the first unit that passes a test

record Found (p : ℕ → Bool) (us : List ℕ) (n : ℕ) : Type 0 where
  before : List ℕ
  first : ℕ
  rest : List ℕ
  parts : us ≡ before ++ first ∷ rest
  passes : p first ≡ true
  none : AllByRecursion (λ u. p u ≡ false) before
  place : n ≡ length before

found_within : (p : ℕ → Bool) (us : List ℕ) → position_or_len p us < length us → Found p us (position_or_len p us)
found_within p [] lt = absurd (omega arith)
found_within p (u ∷ us) lt = by_test (p u)
    (λ h. record { before = []; first = u; rest = us; parts = refl; passes = h; none = tt; place = ap (λ b. cond (not b) (1 + position_or_len p us) 0) h })
    (λ h. let e : position_or_len p (u ∷ us) ≡ 1 + position_or_len p us = ap (λ b. cond (not b) (1 + position_or_len p us) 0) h in
    let f = found_within p us (omega (arith, e)) in
    record { before = u ∷ f.before; first = f.first; rest = f.rest; parts = ap (λ (r : List ℕ). u ∷ r) f.parts; passes = f.passes; none = (h, f.none); place = omega (arith, e, f.place) })

some_cond : (b : Bool) (m n : ℕ) → cond b (Some m) None ≡ Some n → (b ≡ true) × (m ≡ n)
some_cond true m n e = (refl, cc)
some_cond false m n e = absurd cc

found : (p : ℕ → Bool) (us : List ℕ) (n : ℕ) → position p us ≡ Some n → Found p us n
found p us n e =
    let s = some_cond (ltb (position_or_len p us) (length us)) (position_or_len p us) n e in
    subst (Found p us) s.1 (found_within p us (ltb-true _ _ s.0))

first_place : (p : ℕ → Bool) (before : List ℕ) (first : ℕ) (rest : List ℕ) → AllByRecursion (λ u. p u ≡ false) before → p first ≡ true → position_or_len p (before ++ first ∷ rest) ≡ length before
first_place p [] first rest none passes = ap (λ b. cond (not b) (1 + position_or_len p rest) 0) passes
first_place p (u ∷ us) first rest none passes =
    let e : position_or_len p (u ∷ us ++ first ∷ rest) ≡ 1 + position_or_len p (us ++ first ∷ rest) = ap (λ b. cond (not b) (1 + position_or_len p (us ++ first ∷ rest)) 0) none.0 in
    omega (arith, e, first_place p us first rest none.1 passes)

position_at : (p : ℕ → Bool) (before : List ℕ) (first : ℕ) (rest : List ℕ) → AllByRecursion (λ u. p u ≡ false) before → p first ≡ true → position p (before ++ first ∷ rest) ≡ Some (length before)
position_at p before first rest none passes =
    let place = first_place p before first rest none passes in
    let lt : ltb (position_or_len p (before ++ first ∷ rest)) (length (before ++ first ∷ rest)) ≡ true = lt-ltb _ _ (omega (arith, place, length-append before (first ∷ rest))) in
    ap (λ b. cond b (Some (position_or_len p (before ++ first ∷ rest))) None) lt ∙ ap Some place

-- ---- class names

units_no_semicolon : (begun : Bool) (us : List ℕ) → is_named_on begun us ≡ true → AllByRecursion (λ u. eqb u 59 ≡ false) us
units_no_semicolon begun [] h = tt
units_no_semicolon begun (u ∷ us) h = by_test (eqb u 47)
    (λ slash. let r : (begun && is_named_on false us) ≡ true = sym (ap (λ b. cond b (begun && is_named_on false us) (is_plain u && is_named_on true us)) slash) ∙ h in
    (ap (λ k. eqb k 59) (eqb-true u 47 slash), units_no_semicolon false us (and_parts _ _ r).1))
    (λ slash. let r : (is_plain u && is_named_on true us) ≡ true = sym (ap (λ b. cond b (begun && is_named_on false us) (is_plain u && is_named_on true us)) slash) ∙ h in
    (by_test (eqb u 59) (λ semicolon. absurd (let e : is_plain u ≡ false = ap is_plain (eqb-true u 59 semicolon) in let f : is_plain u ≡ true = (and_parts _ _ r).0 in cc)) (λ none. none), units_no_semicolon true us (and_parts _ _ r).1))

some_is : (x y : List ℕ) (o : Option (List ℕ)) → o ≡ Some x → o ≡ Some y → x ≡ y
some_is x y o e f = cc

and_then_some : {A : Type 0} (o : Option A) (f : A → Option (List ℕ)) (y : List ℕ) → option_and_then f o ≡ Some y → (x : A) × (o ≡ Some x) × (f x ≡ Some y)
and_then_some None f y e = absurd cc
and_then_some (Some x) f y e = (x, refl, e)

cond_some : (b : Bool) (x y : List ℕ) → cond b (Some x) None ≡ Some y → (b ≡ true) × (x ≡ y)
cond_some true x y e = (refl, cc)
cond_some false x y e = absurd cc

class_taken : (us rest : List ℕ) → after_class us ≡ Some rest → (name : List ℕ) × (us ≡ name ++ 59 ∷ rest) × (is_class_name name ≡ true)
unfolding after_class
class_taken us rest e =
    let s = and_then_some (position (λ u. eqb u 59) us) (λ n. cond (is_class_name (take n us)) (Some (drop (n + 1) us)) None) rest e in
    let f = found (λ u. eqb u 59) us s.0 s.1 in
    let c = cond_some (is_class_name (take s.0 us)) (drop (s.0 + 1) us) rest s.2 in
    let front : take s.0 us ≡ f.before = ap (take s.0) f.parts ∙ take_at f.before (f.first ∷ f.rest) s.0 (sym f.place) in
    let back : drop (s.0 + 1) us ≡ f.rest =
    ap (drop (s.0 + 1)) (f.parts ∙ sym (append_assoc f.before (f.first ∷ []) f.rest)) ∙ drop_at (f.before ++ f.first ∷ []) f.rest (s.0 + 1) (omega (arith, f.place, length-append f.before (f.first ∷ []))) in
    (f.before, f.parts ∙ ap (λ k. f.before ++ k ∷ f.rest) (eqb-true f.first 59 f.passes) ∙ ap (λ (r : List ℕ). f.before ++ 59 ∷ r) (sym back ∙ c.1), sym (ap is_class_name front) ∙ c.0)

class_again : (name rest : List ℕ) → is_class_name name ≡ true → after_class (name ++ 59 ∷ rest) ≡ Some rest
unfolding after_class
class_again name rest h =
    let none = units_no_semicolon false name (named_from name ∙ h) in
    let place = position_at (λ u. eqb u 59) name 59 rest none refl in
    let front : take (length name) (name ++ 59 ∷ rest) ≡ name = take_at name (59 ∷ rest) (length name) refl in
    let back : drop (length name + 1) (name ++ 59 ∷ rest) ≡ rest =
    ap (drop (length name + 1)) (sym (append_assoc name (59 ∷ []) rest)) ∙ drop_at (name ++ 59 ∷ []) rest (length name + 1) (omega (arith, length-append name (59 ∷ []))) in
    ap (option_and_then (λ n. cond (is_class_name (take n (name ++ 59 ∷ rest))) (Some (drop (n + 1) (name ++ 59 ∷ rest))) None)) place
    ∙ ap (λ b. cond b (Some (drop (length name + 1) (name ++ 59 ∷ rest))) None) (ap is_class_name front ∙ h) ∙ ap Some back

-- ---- types

element_taken : (us rest : List ℕ) → after_element us ≡ Some rest → (type : List ℕ) × (us ≡ type ++ rest) × IsElement type
unfolding after_element
element_taken [] rest e = absurd cc
element_taken (u ∷ us) rest e = by_test (is_base u)
    (λ h. let r : Some us ≡ Some rest = sym (ap (λ b. cond b (Some us) (cond (eqb u 76) (after_class us) None)) h) ∙ e in
    (u ∷ [], ap (λ (x : List ℕ). u ∷ x) (some_is us rest (Some us) refl r), inl (u, refl, h)))
    (λ h. let r : cond (eqb u 76) (after_class us) None ≡ Some rest = sym (ap (λ b. cond b (Some us) (cond (eqb u 76) (after_class us) None)) h) ∙ e in
    by_test (eqb u 76)
    (λ k. let s : after_class us ≡ Some rest = sym (ap (λ b. cond b (after_class us) None) k) ∙ r in
    let c = class_taken us rest s in
    (76 ∷ c.0 ++ 59 ∷ [], ap (λ n. n ∷ us) (eqb-true u 76 k) ∙ ap (λ (x : List ℕ). 76 ∷ x) (c.1 ∙ sym (append_assoc c.0 (59 ∷ []) rest)), inr (c.0, refl, c.2)))
    (λ k. absurd (let s : None ≡ Some rest = sym (ap (λ b. cond b (after_class us) None) k) ∙ r in cc)))

element_again : (type rest : List ℕ) → IsElement type → after_element (type ++ rest) ≡ Some rest
unfolding after_element
element_again type rest (inl (c, is, base)) = ap (λ (t : List ℕ). after_element (t ++ rest)) is ∙ ap (λ b. cond b (Some rest) (cond (eqb c 76) (after_class rest) None)) base
element_again type rest (inr (name, is, named)) =
    ap (λ (t : List ℕ). after_element (t ++ rest)) is ∙ ap (λ (t : List ℕ). after_class t) (append_assoc name (59 ∷ []) rest) ∙ class_again name rest named

not_false : (b : Bool) → not b ≡ false → b ≡ true
not_false true e = refl
not_false false e = absurd cc

brackets_only : (us : List ℕ) → AllByRecursion (λ u. not (eqb u 91) ≡ false) us → us ≡ replicate (length us) 91
brackets_only [] h = refl
brackets_only (u ∷ us) h = ap (λ n. n ∷ us) (eqb-true u 91 (not_false (eqb u 91) h.0)) ∙ ap (λ (x : List ℕ). 91 ∷ x) (brackets_only us h.1)

only_brackets : (n : ℕ) → AllByRecursion (λ u. not (eqb u 91) ≡ false) (replicate n 91)
only_brackets zero = tt
only_brackets (suc n) = (refl, only_brackets n)

cond_opt : (b : Bool) (o : Option (List ℕ)) (y : List ℕ) → cond b o None ≡ Some y → (b ≡ true) × (o ≡ Some y)
cond_opt true o y e = (refl, e)
cond_opt false o y e = absurd cc

pub type_taken : (us rest : List ℕ) → after_type us ≡ Some rest → (type : List ℕ) × (us ≡ type ++ rest) × IsFieldType type
unfolding after_type
type_taken us rest e =
    let s = and_then_some (position (λ u. not (eqb u 91)) us) (λ n. cond (leb n 255) (after_element (drop n us)) None) rest e in
    let f = found (λ u. not (eqb u 91)) us s.0 s.1 in
    let c = cond_opt (leb s.0 255) (after_element (drop s.0 us)) rest s.2 in
    let back : drop s.0 us ≡ f.first ∷ f.rest = ap (drop s.0) f.parts ∙ drop_at f.before (f.first ∷ f.rest) s.0 (sym f.place) in
    let t = element_taken (f.first ∷ f.rest) rest (ap after_element (sym back) ∙ c.1) in (
      f.before ++ t.0,
      f.parts ∙ ap (λ (x : List ℕ). f.before ++ x) t.1 ∙ sym (append_assoc f.before t.0 rest),
      record { dimensions = length f.before; element = t.0; spelled = ap (λ (b : List ℕ). b ++ t.0) (brackets_only f.before f.none); few = omega (arith, f.place, leb-true _ _ c.0); ends = t.2 },
    )

-- a type starts with a unit that isn't )
record Starts (P : ℕ → Type 0) (us : List ℕ) : Type 0 where
  first : ℕ
  rest : List ℕ
  parts : us ≡ first ∷ rest
  is : P first

base_is_not : (c k : ℕ) → is_base c ≡ true → is_base k ≡ false → eqb c k ≡ false
base_is_not c k h n = by_test (eqb c k) (λ e. absurd (let s : is_base c ≡ is_base k = ap is_base (eqb-true c k e) in cc)) (λ e. e)

element_starts : (k : ℕ) → is_base k ≡ false → eqb 76 k ≡ false → (type : List ℕ) → IsElement type → Starts (λ u. eqb u k ≡ false) type
element_starts k base other type (inl (c, is, h)) = record { first = c; rest = []; parts = is; is = base_is_not c k h base }
element_starts k base other type (inr (name, is, h)) = record { first = 76; rest = name ++ 59 ∷ []; parts = is; is = other }

starts_by : (n : ℕ) (element type : List ℕ) → type ≡ replicate n 91 ++ element → Starts (λ u. eqb u 41 ≡ false) element → Starts (λ u. eqb u 41 ≡ false) type
starts_by zero element type is s = record { first = s.first; rest = s.rest; parts = is ∙ s.parts; is = s.is }
starts_by (suc n) element type is s = record { first = 91; rest = replicate n 91 ++ element; parts = is; is = refl }

type_starts : (type : List ℕ) → IsFieldType type → Starts (λ u. eqb u 41 ≡ false) type
type_starts type t = starts_by t.dimensions t.element type t.spelled (element_starts 41 refl refl t.element t.ends)

pub type_again : (type rest : List ℕ) → IsFieldType type → after_type (type ++ rest) ≡ Some rest
unfolding after_type
type_again type rest t =
    let s = element_starts 91 refl refl t.element t.ends in
    let p : ℕ → Bool = λ u. not (eqb u 91) in
    let front : List ℕ = replicate t.dimensions 91 in
    let whole : type ++ rest ≡ front ++ (t.element ++ rest) = ap (λ (x : List ℕ). x ++ rest) t.spelled ∙ append_assoc front t.element rest in
    let split : type ++ rest ≡ front ++ s.first ∷ (s.rest ++ rest) = whole ∙ ap (λ (x : List ℕ). front ++ (x ++ rest)) s.parts in
    let place : position p (type ++ rest) ≡ Some t.dimensions =
    ap (position p) split ∙ position_at p front s.first (s.rest ++ rest) (only_brackets t.dimensions) (ap not s.is) ∙ ap Some (length-replicate t.dimensions 91) in
    let back : drop t.dimensions (type ++ rest) ≡ t.element ++ rest = ap (drop t.dimensions) whole ∙ drop_at front (t.element ++ rest) t.dimensions (length-replicate t.dimensions 91) in
    ap (option_and_then (λ n. cond (leb n 255) (after_element (drop n (type ++ rest))) None)) place
    ∙ ap (λ b. cond b (after_element (drop t.dimensions (type ++ rest))) None) (le-leb _ _ t.few)
    ∙ ap after_element back ∙ element_again t.element rest t.ends

pub field_taken : (us : List ℕ) → is_field_descriptor us ≡ true → IsFieldType us
unfolding is_field_descriptor
field_taken us e = let t = type_taken us [] (ends_some (after_type us) e) in subst IsFieldType (sym (t.1 ∙ append-nil t.0)) t.2

pub field_again : (us : List ℕ) → IsFieldType us → is_field_descriptor us ≡ true
unfolding is_field_descriptor
field_again us t = ap ends (ap after_type (sym (append-nil us)) ∙ type_again us [] t)

-- ---- arguments

-- the first unit of a type says how many units an argument of it takes
units_front : (type rest : List ℕ) → IsFieldType type → units_of_type (type ++ rest) ≡ units_of_type type
units_front type rest t = let s = type_starts type t in ap (λ (x : List ℕ). units_of_type (x ++ rest)) s.parts ∙ sym (ap units_of_type s.parts)

pair_is : (x y : ℕ × List ℕ) → Some x ≡ Some y → x ≡ y
pair_is x y e = cc

and_then_pair : (o : Option (ℕ × List ℕ)) (f : ℕ × List ℕ → Option (ℕ × List ℕ)) (y : ℕ × List ℕ) → option_and_then f o ≡ Some y → (x : ℕ × List ℕ) × (o ≡ Some x) × (f x ≡ Some y)
and_then_pair None f y e = absurd cc
and_then_pair (Some x) f y e = (x, refl, e)

and_then_number : (o : Option (ℕ × List ℕ)) (f : ℕ × List ℕ → Option ℕ) (y : ℕ) → option_and_then f o ≡ Some y → (x : ℕ × List ℕ) × (o ≡ Some x) × (f x ≡ Some y)
and_then_number None f y e = absurd cc
and_then_number (Some x) f y e = (x, refl, e)

argument_by : (b : Bool) (n : ℕ) (o : Option (List ℕ)) (x : ℕ × List ℕ) → cond b None (option_map (λ rest. (n, rest)) o) ≡ Some x → (b ≡ false) × (o ≡ Some x.1) × (x.0 ≡ n)
argument_by true n o x e = absurd cc
argument_by false n None x e = absurd cc
argument_by false n (Some rest) x e = let s : (n, rest) ≡ x = pair_is (n, rest) x e in (refl, ap (λ (z : ℕ × List ℕ). Some z.1) s, sym (ap (λ (z : ℕ × List ℕ). z.0) s))

argument_taken : (so_far : ℕ) (us : List ℕ) (x : ℕ × List ℕ) → argument so_far us ≡ Some x → (type : List ℕ) × (us ≡ type ++ x.1) × IsFieldType type × (x.0 ≡ so_far + units_of_type type) × (x.0 ≤ 255)
unfolding argument
argument_taken so_far us x e =
    let a = argument_by (ltb 255 (so_far + units_of_type us)) (so_far + units_of_type us) (after_type us) x e in
    let t = type_taken us x.1 a.1 in
    let same : units_of_type us ≡ units_of_type t.0 = ap units_of_type t.1 ∙ units_front t.0 x.1 t.2 in
    (t.0, t.1, t.2, a.2 ∙ ap (λ k. so_far + k) same, omega (arith, ltb-false _ _ a.0, a.2))

argument_again : (so_far : ℕ) (type rest : List ℕ) → IsFieldType type → so_far + units_of_type type ≤ 255 → argument so_far (type ++ rest) ≡ Some (so_far + units_of_type type, rest)
unfolding argument
argument_again so_far type rest t le =
    let same = units_front type rest t in
    let few : ltb 255 (so_far + units_of_type (type ++ rest)) ≡ false = le-ltb _ _ (omega (arith, same)) in
    ap (λ b. cond b None (option_map (λ r. (so_far + units_of_type (type ++ rest), r)) (after_type (type ++ rest)))) few
    ∙ ap (option_map (λ r. (so_far + units_of_type (type ++ rest), r))) (type_again type rest t)
    ∙ ap (λ k. Some (so_far + k, rest)) same

record Arguments (so_far : ℕ) (us : List ℕ) (x : ℕ × List ℕ) : Type 0 where
  types : List (List ℕ)
  parts : us ≡ concat types ++ 41 ∷ x.1
  each : AllByRecursion IsFieldType types
  sum : x.0 ≡ so_far + sum_by units_of_type types
  few : so_far ≤ 255 → x.0 ≤ 255

closed_cases : {X : Type 0} (so_far : ℕ) (us : List ℕ) (more : Option (ℕ × List ℕ)) (x : ℕ × List ℕ) → closed so_far (after_close us) more ≡ Some x → ((us ≡ 41 ∷ x.1) → (x.0 ≡ so_far) → X) → (more ≡ Some x → X) → X
closed_cases so_far [] more x e first second = second e
closed_cases so_far (u ∷ us) more x e first second = by_test (eqb u 41)
    (λ h. let r : Some (so_far, us) ≡ Some x = sym (ap (λ b. closed so_far (cond b (Some us) None) more) h) ∙ e in
    let s : (so_far, us) ≡ x = pair_is (so_far, us) x r in
    first (ap (λ n. n ∷ us) (eqb-true u 41 h) ∙ ap (λ (z : ℕ × List ℕ). 41 ∷ z.1) s) (sym (ap (λ (z : ℕ × List ℕ). z.0) s)))
    (λ h. second (sym (ap (λ b. closed so_far (cond b (Some us) None) more) h) ∙ e))

arguments_taken : (n so_far : ℕ) (us : List ℕ) (x : ℕ × List ℕ) → arguments n so_far us ≡ Some x → Arguments so_far us x
unfolding arguments
arguments_taken zero so_far us x e = absurd cc
arguments_taken (suc n) so_far us x e = closed_cases so_far us (option_and_then (λ y. arguments n y.0 y.1) (argument so_far us)) x e
    (λ is same. record { types = []; parts = is; each = tt; sum = same ∙ sym (add-zero so_far); few = λ le. omega (arith, same) })
    (λ more. let a = and_then_pair (argument so_far us) (λ y. arguments n y.0 y.1) x more in
    let t = argument_taken so_far us a.0 a.1 in
    let r = arguments_taken n a.0.0 a.0.1 x a.2 in
    record {
      types = t.0 ∷ r.types;
      parts = t.1 ∙ ap (λ (y : List ℕ). t.0 ++ y) r.parts ∙ sym (append_assoc t.0 (concat r.types) (41 ∷ x.1));
      each = (t.2, r.each);
      sum = omega (arith, r.sum, t.3, sum_by-cons units_of_type t.0 r.types);
      few = λ le. r.few t.4;
    })

arguments_again : (types : List (List ℕ)) (n so_far : ℕ) (rest : List ℕ) → AllByRecursion IsFieldType types → length (concat types) < n → so_far + sum_by units_of_type types ≤ 255
    → arguments n so_far (concat types ++ 41 ∷ rest) ≡ Some (so_far + sum_by units_of_type types, rest)
unfolding arguments
arguments_again types zero so_far rest each lt le = absurd (omega arith)
arguments_again [] (suc n) so_far rest each lt le = ap (λ k. Some (k, rest)) (sym (add-zero so_far))
arguments_again (type ∷ types) (suc n) so_far rest each lt le =
    let s = type_starts type each.0 in
    let more : List ℕ = concat types ++ 41 ∷ rest in
    let whole : (type ++ concat types) ++ 41 ∷ rest ≡ type ++ more = append_assoc type (concat types) (41 ∷ rest) in
    let not_closed : after_close ((type ++ concat types) ++ 41 ∷ rest) ≡ None =
    ap (λ (x : List ℕ). after_close ((x ++ concat types) ++ 41 ∷ rest)) s.parts ∙ ap (λ b. cond b (Some ((s.rest ++ concat types) ++ 41 ∷ rest)) None) s.is in
    let total : sum_by units_of_type (type ∷ types) ≡ units_of_type type + sum_by units_of_type types = sum_by-cons units_of_type type types in
    let one : argument so_far ((type ++ concat types) ++ 41 ∷ rest) ≡ Some (so_far + units_of_type type, more) =
    ap (argument so_far) whole ∙ argument_again so_far type more each.0 (omega (arith, total)) in
    let some : 0 < length type = omega (arith, ap length s.parts) in
    let tail = arguments_again types n (so_far + units_of_type type) rest each.1 (omega (arith, length-append type (concat types))) (omega (arith, total)) in
    ap (λ o. closed so_far o (option_and_then (λ y. arguments n y.0 y.1) (argument so_far ((type ++ concat types) ++ 41 ∷ rest)))) not_closed
    ∙ ap (option_and_then (λ y. arguments n y.0 y.1)) one ∙ tail ∙ ap (λ k. Some (k, rest)) (omega (arith, total))

-- ---- method descriptors

return_taken : (us : List ℕ) → is_return us ≡ true → (us ≡ 86 ∷ []) ⊎ IsFieldType us
return_taken us e = elim (or_cases (bytes_eq us (86 ∷ [])) (is_field_descriptor us) e) [
  | inl v ↦ inl ((bytes_eq-Decides us (86 ∷ [])).0 v)
  | inr f ↦ inr (field_taken us f)
]

return_again : (us : List ℕ) → (us ≡ 86 ∷ []) ⊎ IsFieldType us → is_return us ≡ true
return_again us (inl v) = ap (λ b. b || is_field_descriptor us) ((bytes_eq-Decides us (86 ∷ [])).1 v)
return_again us (inr f) = ap (λ b. bytes_eq us (86 ∷ []) || b) (field_again us f) ∙ or-true (bytes_eq us (86 ∷ []))

cond_number : (b : Bool) (m n : ℕ) → cond b (Some m) None ≡ Some n → (b ≡ true) × (m ≡ n)
cond_number true m n e = (refl, cc)
cond_number false m n e = absurd cc

pub method_taken : (us : List ℕ) (n : ℕ) → argument_units us ≡ Some n → IsMethodType us n
unfolding argument_units
method_taken [] n e = absurd cc
method_taken (u ∷ us) n e = by_test (eqb u 40)
    (λ h. let r : option_and_then (λ x. cond (is_return x.1) (Some x.0) None) (arguments (length us) 0 us) ≡ Some n =
    sym (ap (λ b. cond b (option_and_then (λ x. cond (is_return x.1) (Some x.0) None) (arguments (length us) 0 us)) None) h) ∙ e in
    let a = and_then_number (arguments (length us) 0 us) (λ x. cond (is_return x.1) (Some x.0) None) n r in
    let c = cond_number (is_return a.0.1) a.0.0 n a.2 in
    let t = arguments_taken (length us) 0 us a.0 a.1 in
    record {
      arguments = t.types;
      returned = a.0.1;
      spelled = ap (λ k. k ∷ us) (eqb-true u 40 h) ∙ ap (λ (x : List ℕ). 40 ∷ x) t.parts;
      types = t.each;
      returns = return_taken a.0.1 c.0;
      sum = omega (arith, c.1, t.sum);
      few = omega (arith, c.1, t.few (omega arith));
    })
    (λ h. absurd (let r : None ≡ Some n = sym (ap (λ b. cond b (option_and_then (λ x. cond (is_return x.1) (Some x.0) None) (arguments (length us) 0 us)) None) h) ∙ e in cc))

pub method_again : (us : List ℕ) (n : ℕ) → IsMethodType us n → argument_units us ≡ Some n
unfolding argument_units
method_again us n m =
    let rest : List ℕ = concat m.arguments ++ 41 ∷ m.returned in
    let read : arguments (length rest) 0 rest ≡ Some (sum_by units_of_type m.arguments, m.returned) =
    arguments_again m.arguments (length rest) 0 m.returned m.types (omega (arith, length-append (concat m.arguments) (41 ∷ m.returned))) (omega (arith, m.sum, m.few)) ∙ ap (λ k. Some (k, m.returned)) (omega arith) in
    ap argument_units m.spelled
    ∙ ap (option_and_then (λ x. cond (is_return x.1) (Some x.0) None)) read
    ∙ ap (λ b. cond b (Some (sum_by units_of_type m.arguments)) None) (return_again m.returned m.returns) ∙ ap Some (sym m.sum)

-- ---- as clauses say it

pub field_exact : (us : List ℕ) (r : Bool) → r ≡ is_field_descriptor us → IsTrue r ↔ IsFieldType us
field_exact us r e = (λ h. field_taken us (sym e ∙ h), λ t. e ∙ field_again us t)

pub method_found : (us : List ℕ) (r : Option ℕ) → r ≡ argument_units us → IfSome r (λ n. IsMethodType us n)
method_found us None e = tt
method_found us (Some n) e = method_taken us n (sym e)
