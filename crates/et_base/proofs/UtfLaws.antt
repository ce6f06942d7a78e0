-- Modified UTF-8: what is read is spelled so, and what is spelled so is read.
use Rattle.std.proofs.Common.{◌≡◌, ℕ, zero, suc, ◌+◌, ◌-◌, ◌/◌, ◌%◌, ◌^◌, ◌<◌, ◌≤◌, Bool, true, false, cond, eqb, ltb, leb, ◌||◌, List, [], ◌∷◌, ◌++◌, length, Option, Some, None, Result, Ok, Err, refl, sym, ap, subst, ◌∙◌, append_assoc, arith, inl, inr, All}
use Rattle.std.proofs.lemmas.Bool.{and_parts, and_from, or_cases, eqb-true, ltb-true, lt-ltb, leb-true, le-ltb, le-leb, cases_lt}
use Rattle.std.proofs.lemmas.{Bool.Decides.nat_tests, List.Concat.flat_map-append, List.append-nil, List.length-append}
use Rattle.std.proofs.lemmas.List.Elements.{All-nil, All-head, All-tail, All-append, All-push, All-from_recursion}
use Rattle.et_base.specs.Utf.{IsUnit, IsUnits, is_one, group, utf, StartsBadly, IsFirstBad}
use Rattle.et_base.specs.UtfReading.{is_more, is_two, is_three, two, three, third, second, unit_at, with_unit, units_after, units_from, units_read}
use Rattle.et_base.proofs.Cases.{by_test}

-- ---- one group

-- how many bytes a group has
pub length-group : (u : ℕ) → length (group u) ≡ cond (is_one u) 1 (cond (ltb u 2048) 2 3)
unfolding group
length-group u = by_test (is_one u) (λ h. rw h refl) (λ h. by_test (ltb u 2048) (λ k. rw (h, k) refl) (λ k. rw (h, k) refl))

pub group_some : (u : ℕ) → 0 < length (group u)
group_some u = rw length-group (grind arith)

chosen : {A : Type 0} {X : Type 0} (b : Bool) (r q y : Option A) → cond b r q ≡ y → ((b ≡ true) → r ≡ y → X) → ((b ≡ false) → q ≡ y → X) → X
chosen true r q y e first second = first refl e
chosen false r q y e first second = second refl e

is_more_is : (b : ℕ) → is_more b ≡ true → (128 ≤ b) × (b < 192)
is_more_is b h = let p = and_parts _ _ h in (leb-true _ _ p.0, ltb-true _ _ p.1)

-- some group stands at the front of the bytes, and the rest follows
pub record Takes (bytes : List ℕ) (x : ℕ × List ℕ) : Type 0 where
  pub unit : IsUnit x.0
  pub parts : bytes ≡ group x.0 ++ x.1

one_takes : (a : ℕ) (rest : List ℕ) → is_one a ≡ true → Takes (a ∷ rest) (a, rest)
unfolding group
one_takes a rest h = let p : (leb 1 a ≡ true) × (ltb a 128 ≡ true) = and_parts _ _ h in let k : a < 128 = ltb-true _ _ p.1 in record { unit = omega arith; parts = rw h refl }

two_is : (a b : ℕ) → is_two a b ≡ true → group (two a b) ≡ a ∷ b ∷ []
unfolding group
two_is a b h =
    let p = and_parts _ _ h in
    let q = and_parts _ _ p.0 in
    let r = and_parts _ _ q.0 in
    let low : 192 ≤ a = leb-true _ _ r.0 in
    let high : a < 224 = ltb-true _ _ r.1 in
    let more = is_more_is b q.1 in
    let x : 192 + two a b / 64 ≡ a = omega (arith, more.0, more.1) in
    let y : 128 + two a b % 64 ≡ b = omega (arith, more.0, more.1) in
    let small : ltb (two a b) 2048 ≡ true = lt-ltb _ _ (omega (arith, more.0, more.1)) in
    let not_one : is_one (two a b) ≡ false = elim (or_cases _ _ p.1) [
      | inl z ↦ let e : two a b ≡ 0 = eqb-true _ _ z in ap is_one e
      | inr z ↦ let g : 128 ≤ two a b = leb-true _ _ z in grind (arith, nat_tests, g)
    ] in
    rw (not_one, small, x, y) refl

two_fits : (a b : ℕ) → is_two a b ≡ true → two a b < 2 ^ 16
two_fits a b h =
    let p = and_parts _ _ h in
    let q = and_parts _ _ p.0 in
    let r = and_parts _ _ q.0 in
    let low : 192 ≤ a = leb-true _ _ r.0 in
    let high : a < 224 = ltb-true _ _ r.1 in
    let more = is_more_is b q.1 in
    omega (arith, more.0, more.1)

three_is : (a b c : ℕ) → is_three a b c ≡ true → (group (three a b c) ≡ a ∷ b ∷ c ∷ []) × (three a b c < 2 ^ 16)
unfolding group
three_is a b c h =
    let p = and_parts _ _ h in
    let q = and_parts _ _ p.0 in
    let r = and_parts _ _ q.0 in
    let s = and_parts _ _ r.0 in
    let low : 224 ≤ a = leb-true _ _ s.0 in
    let high : a < 240 = ltb-true _ _ s.1 in
    let m1 = is_more_is b r.1 in
    let m2 = is_more_is c q.1 in
    let big : 2048 ≤ three a b c = leb-true _ _ p.1 in
    let x : 224 + three a b c / 4096 ≡ a = omega (arith, m1.0, m1.1, m2.0, m2.1) in
    let y : 128 + three a b c / 64 % 64 ≡ b = omega (arith, m1.0, m1.1, m2.0, m2.1) in
    let z : 128 + three a b c % 64 ≡ c = omega (arith, m1.0, m1.1, m2.0, m2.1) in
    let not_one : is_one (three a b c) ≡ false = grind (arith, nat_tests, big) in
    let not_two : ltb (three a b c) 2048 ≡ false = le-ltb _ _ big in
    (rw (not_one, not_two, x, y, z) refl, omega (arith, m1.0, m1.1, m2.0, m2.1))

some_is : {A : Type 0} (x y : A) (o : Option A) → o ≡ Some x → o ≡ Some y → x ≡ y
some_is x y o e f = cc

third_takes : (a b : ℕ) (rest : List ℕ) (x : ℕ × List ℕ) → third a b rest ≡ Some x → Takes (a ∷ b ∷ rest) x
third_takes a b [] x e = absurd cc
third_takes a b (c ∷ rest) x e = chosen (is_three a b c) (Some (three a b c, rest)) None (Some x) e
    (λ h i. let t = three_is a b c h in subst (λ z. Takes (a ∷ b ∷ c ∷ rest) z) (some_is (three a b c, rest) x _ refl i) (record { unit = t.1; parts = rw t.0 refl }))
    (λ h i. absurd cc)

second_takes : (a : ℕ) (rest : List ℕ) (x : ℕ × List ℕ) → second a rest ≡ Some x → Takes (a ∷ rest) x
second_takes a [] x e = absurd cc
second_takes a (b ∷ rest) x e = chosen (is_two a b) (Some (two a b, rest)) (third a b rest) (Some x) e
    (λ h i. subst (λ z. Takes (a ∷ b ∷ rest) z) (some_is (two a b, rest) x _ refl i) (record { unit = two_fits a b h; parts = rw (two_is a b h) refl }))
    (λ h i. third_takes a b rest x i)

-- what is read is spelled so
pub unit_takes : (bytes : List ℕ) (x : ℕ × List ℕ) → unit_at bytes ≡ Some x → Takes bytes x
unfolding unit_at
unit_takes [] x e = absurd cc
unit_takes (a ∷ rest) x e = chosen (is_one a) (Some (a, rest)) (second a rest) (Some x) e
    (λ h i. subst (λ z. Takes (a ∷ rest) z) (some_is (a, rest) x _ refl i) (one_takes a rest h))
    (λ h i. second_takes a rest x i)

again_one : (rest : List ℕ) (u : ℕ) → is_one u ≡ true → unit_at (group u ++ rest) ≡ Some (u, rest)
unfolding unit_at group
again_one rest u h = rw (h, h) refl

again_two : (rest : List ℕ) (u : ℕ) → is_one u ≡ false → u < 2048 → unit_at (group u ++ rest) ≡ Some (u, rest)
unfolding unit_at group
again_two rest u h lt =
    let small : ltb u 2048 ≡ true = lt-ltb _ _ lt in
    let not_one : is_one (192 + u / 64) ≡ false = grind (arith, nat_tests) in
    let is : two (192 + u / 64) (128 + u % 64) ≡ u = omega arith in
    let ends : (eqb u 0 || leb 128 u) ≡ true = grind (arith, nat_tests, h) in
    let more : is_more (128 + u % 64) ≡ true = grind (arith, nat_tests) in
    let high : ltb (192 + u / 64) 224 ≡ true = lt-ltb _ _ (omega arith) in
    let low : leb 192 (192 + u / 64) ≡ true = le-leb _ _ (omega arith) in
    let fits : is_two (192 + u / 64) (128 + u % 64) ≡ true = and_from _ _ (and_from _ _ (and_from _ _ low high) more) (rw is ends) in
    rw (h, small, not_one, fits, is) refl

again_three : (rest : List ℕ) (u : ℕ) → is_one u ≡ false → 2048 ≤ u → u < 2 ^ 16 → unit_at (group u ++ rest) ≡ Some (u, rest)
unfolding unit_at group
again_three rest u h le lt =
    let big : ltb u 2048 ≡ false = le-ltb _ _ le in
    let not_one : is_one (224 + u / 4096) ≡ false = grind (arith, nat_tests) in
    let not_two : is_two (224 + u / 4096) (128 + u / 64 % 64) ≡ false = grind (arith, nat_tests) in
    let is : three (224 + u / 4096) (128 + u / 64 % 64) (128 + u % 64) ≡ u = omega arith in
    let more : is_more (128 + u / 64 % 64) ≡ true = grind (arith, nat_tests) in
    let last : is_more (128 + u % 64) ≡ true = grind (arith, nat_tests) in
    let high : ltb (224 + u / 4096) 240 ≡ true = lt-ltb _ _ (omega arith) in
    let low : leb 224 (224 + u / 4096) ≡ true = le-leb _ _ (omega arith) in
    let fits : is_three (224 + u / 4096) (128 + u / 64 % 64) (128 + u % 64) ≡ true = and_from _ _ (and_from _ _ (and_from _ _ (and_from _ _ low high) more) last) (rw is (le-leb _ _ le)) in
    rw (h, big, not_one, not_two, fits, is) refl

-- what is spelled is read, whatever follows
pub unit_at-group : (u : ℕ) (rest : List ℕ) → IsUnit u → unit_at (group u ++ rest) ≡ Some (u, rest)
unit_at-group u rest lt = by_test (is_one u) (λ h. again_one rest u h)
    (λ h. elim (cases_lt u 2048) [ inl small ↦ again_two rest u h small | inr le ↦ again_three rest u h le lt ])

-- where no unit is read the first group is bad, and the other way
pub bad_from_none : (bytes : List ℕ) → 0 < length bytes → unit_at bytes ≡ None → StartsBadly bytes
bad_from_none bytes some e = record { some = some; bad = λ u rest lt is. absurd (let a : unit_at bytes ≡ Some (u, rest) = ap unit_at is ∙ unit_at-group u rest lt in cc) }

none_by : (bytes : List ℕ) (o : Option (ℕ × List ℕ)) → unit_at bytes ≡ o → StartsBadly bytes → unit_at bytes ≡ None
none_by bytes None e bad = e
none_by bytes (Some x) e bad = let t = unit_takes bytes x e in absurd (bad.bad x.0 x.1 t.unit t.parts)

pub unit_at-bad : (bytes : List ℕ) → StartsBadly bytes → unit_at bytes ≡ None
unit_at-bad bytes bad = none_by bytes (unit_at bytes) refl bad

-- ---- groups one after the other

units_from_on : (n at : ℕ) (bytes : List ℕ) → 0 < length bytes → units_from (suc n) at bytes ≡ units_after (units_from n) at (unit_at bytes)
unfolding units_from
units_from_on n at [] some = absurd (omega arith)
units_from_on n at (b ∷ bytes) some = refl

units_from-more : (n at u : ℕ) (rest : List ℕ) → IsUnit u → units_from (suc n) at (group u ++ rest) ≡ with_unit u (units_from n (at + length (group u)) rest)
units_from-more n at u rest lt =
    units_from_on n at (group u ++ rest) (omega (arith, group_some u, length-append (group u) rest))
    ∙ ap (units_after (units_from n) at) (unit_at-group u rest lt)

units_from-utf : (us : List ℕ) (n at : ℕ) → IsUnits us → length (utf us) ≤ n → units_from n at (utf us) ≡ Ok us
unfolding units_from
units_from-utf [] n at all le = refl
units_from-utf (u ∷ us) zero at all le = absurd (omega (arith, group_some u, length-append (group u) (utf us)))
units_from-utf (u ∷ us) (suc n) at all le =
    units_from-more n at u (utf us) (All-head IsUnit u us all)
    ∙ ap (with_unit u) (units_from-utf us n (at + length (group u)) (All-tail IsUnit u us all) (omega (arith, group_some u, length-append (group u) (utf us), le)))

units_from-bad : (us : List ℕ) (n at : ℕ) (rest : List ℕ) → IsUnits us → StartsBadly rest → length (utf us ++ rest) ≤ n → units_from n at (utf us ++ rest) ≡ Err (at + length (utf us))
units_from-bad [] zero at rest all bad le = absurd (omega (arith, bad.some))
units_from-bad [] (suc n) at rest all bad le = units_from_on n at rest bad.some ∙ ap (units_after (units_from n) at) (unit_at-bad rest bad) ∙ ap Err (omega arith)
units_from-bad (u ∷ us) zero at rest all bad le = absurd (omega (arith, group_some u, length-append (group u) (utf us), length-append (group u ++ utf us) rest))
units_from-bad (u ∷ us) (suc n) at rest all bad le =
    let whole : (group u ++ utf us) ++ rest ≡ group u ++ (utf us ++ rest) = append_assoc (group u) (utf us) rest in
    let len : length ((group u ++ utf us) ++ rest) ≡ length (group u) + length (utf us ++ rest) = ap length whole ∙ length-append (group u) (utf us ++ rest) in
    ap (units_from (suc n) at) whole
    ∙ units_from-more n at u (utf us ++ rest) (All-head IsUnit u us all)
    ∙ ap (with_unit u) (units_from-bad us n (at + length (group u)) rest (All-tail IsUnit u us all) bad (omega (arith, group_some u, len, le)))
    ∙ ap Err (omega (arith, length-append (group u) (utf us)))

-- what is written is read again as itself
pub units_read-utf : (us : List ℕ) → IsUnits us → units_read (utf us) ≡ Ok us
units_read-utf us all = units_from-utf us (length (utf us)) 0 all (omega arith)

pub units_read-spelled : (bytes us : List ℕ) → bytes ≡ utf us → IsUnits us → units_read bytes ≡ Ok us
units_read-spelled bytes us e all = ap units_read e ∙ units_read-utf us all

-- the first bad group is answered
pub units_read-bad : (bytes : List ℕ) (at : ℕ) → IsFirstBad bytes at → units_read bytes ≡ Err at
units_read-bad bytes at bad =
    ap units_read bad.parts ∙ units_from-bad bad.before (length (utf bad.before ++ bad.rest)) 0 bad.rest bad.units bad.wrong (omega arith) ∙ ap Err (omega (arith, bad.offset))

-- ---- a reader's steps

pub record SoFar (bytes us rest : List ℕ) : Type 0 where
  pub parts : bytes ≡ utf us ++ rest
  pub units : IsUnits us

pub so_far_more : (bytes us rest next : List ℕ) (u : ℕ) → SoFar bytes us rest → unit_at rest ≡ Some (u, next) → SoFar bytes (us ++ u ∷ []) next
so_far_more bytes us rest next u h e =
    let t = unit_takes rest (u, next) e in
    record {
      parts = h.parts ∙ ap (λ (r : List ℕ). utf us ++ r) t.parts ∙ sym (append_assoc (utf us) (group u) next)
          ∙ ap (λ (g : List ℕ). (utf us ++ g) ++ next) (sym (append-nil (group u))) ∙ ap (λ (r : List ℕ). r ++ next) (sym (flat_map-append group us (u ∷ [])));
      units = All-push IsUnit us u h.units t.unit;
    }

pub unit_at-shorter : (rest next : List ℕ) (u : ℕ) → unit_at rest ≡ Some (u, next) → length next < length rest
unit_at-shorter rest next u e = let t = unit_takes rest (u, next) e in omega (arith, group_some u, ap length t.parts, length-append (group u) next)

pub so_far_bad : (bytes us rest : List ℕ) → SoFar bytes us rest → 0 < length rest → unit_at rest ≡ None → IsFirstBad bytes (length bytes - length rest)
so_far_bad bytes us rest h some e = record {
  before = us;
  rest = rest;
  parts = h.parts;
  units = h.units;
  offset = omega (arith, ap length h.parts, length-append (utf us) rest);
  wrong = bad_from_none rest some e;
}

-- ---- and nothing else is read: what comes out spells the bytes, or names their first bad group

-- what reading the rest of some bytes answers
abbrev Answers : List ℕ → List ℕ → List ℕ → Result (List ℕ) ℕ → Type 0
Answers bytes us rest (Ok vs) = (bytes ≡ utf (us ++ vs)) × IsUnits (us ++ vs)
Answers bytes us rest (Err at) = IsFirstBad bytes at

answers_unit : (bytes us rest next : List ℕ) (u : ℕ) (r : Result (List ℕ) ℕ) → Answers bytes (us ++ u ∷ []) next r → Answers bytes us rest (with_unit u r)
answers_unit bytes us rest next u (Ok vs) h = let e : (us ++ u ∷ []) ++ vs ≡ us ++ u ∷ vs = append_assoc us (u ∷ []) vs in (h.0 ∙ ap utf e, subst IsUnits e h.1)
answers_unit bytes us rest next u (Err at) h = h

answers_first : (n at : ℕ) (bytes us rest : List ℕ) (o : Option (ℕ × List ℕ)) → unit_at rest ≡ o → 0 < length rest → at ≡ length (utf us) → SoFar bytes us rest
    → ((u : ℕ) (next : List ℕ) → o ≡ Some (u, next) → Answers bytes (us ++ u ∷ []) next (units_from n (at + length (group u)) next))
    → Answers bytes us rest (units_after (units_from n) at o)
answers_first n at bytes us rest None e some place h more = let b = so_far_bad bytes us rest h some e in subst (IsFirstBad bytes) (omega (arith, ap length h.parts, length-append (utf us) rest)) b
answers_first n at bytes us rest (Some (u, next)) e some place h more = answers_unit bytes us rest next u (units_from n (at + length (group u)) next) (more u next refl)

answers : (n at : ℕ) (bytes us rest : List ℕ) → length rest ≤ n → at ≡ length (utf us) → SoFar bytes us rest → Answers bytes us rest (units_from n at rest)
unfolding units_from
answers n at bytes us [] le place h = (h.parts ∙ append-nil (utf us) ∙ ap utf (sym (append-nil us)), subst IsUnits (sym (append-nil us)) h.units)
answers zero at bytes us (b ∷ rest) le place h = absurd (omega arith)
answers (suc n) at bytes us (b ∷ rest) le place h =
    answers_first n at bytes us (b ∷ rest) (unit_at (b ∷ rest)) refl (omega arith) place h
    (λ u next e. answers n (at + length (group u)) bytes (us ++ u ∷ []) next (omega (arith, unit_at-shorter (b ∷ rest) next u e))
    (omega (arith, place, ap length (flat_map-append group us (u ∷ [])), length-append (utf us) (group u ++ []), length-append (group u) ([])))
    (so_far_more bytes us (b ∷ rest) next u h e))

all_answers : (bytes : List ℕ) → Answers bytes [] bytes (units_read bytes)
all_answers bytes = answers (length bytes) 0 bytes [] bytes (omega arith) refl (record { parts = refl; units = All-nil IsUnit })

-- the units that are read spell the bytes
pub spells_from_read : (bytes us : List ℕ) → units_read bytes ≡ Ok us → (bytes ≡ utf us) × IsUnits us
spells_from_read bytes us e = subst (Answers bytes [] bytes) e (all_answers bytes)

-- ---- what is written is bytes

abbrev pub IsByte : ℕ → Type 0
IsByte b = b < 256

pub group_bytes : (u : ℕ) → IsUnit u → All IsByte (group u)
unfolding group
group_bytes u lt = All-from_recursion IsByte (group u) (by_test (is_one u)
    (λ h. let p : (leb 1 u ≡ true) × (ltb u 128 ≡ true) = and_parts _ _ h in let k : u < 128 = ltb-true _ _ p.1 in rw h (omega arith, tt))
    (λ h. by_test (ltb u 2048)
    (λ k. let small : u < 2048 = ltb-true _ _ k in rw (h, k) (omega arith, (omega arith, tt)))
    (λ k. rw (h, k) (omega arith, (omega arith, (omega arith, tt))))))

pub utf_bytes : (us : List ℕ) → IsUnits us → All IsByte (utf us)
utf_bytes [] all = All-nil IsByte
utf_bytes (u ∷ us) all = All-append IsByte (group u) (utf us) (group_bytes u (All-head IsUnit u us all)) (utf_bytes us (All-tail IsUnit u us all))
