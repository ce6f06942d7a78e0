-- The class and the method of a test's name are words.
use Rattle.std.proofs.Common.{◌≡◌, ℕ, zero, suc, ◌+◌, ◌-◌, ◌<◌, ◌≤◌, ◌==◌, Bool, true, false, not, cond, ◌||◌, nat_eq, List, [], ◌∷◌, length, map, take, drop, reverse, get_or, refl, sym, ap, ◌∙◌, inl, inr, arith}
use Rattle.std.specs.List.{list_all, slice_split, join_with_byte, suffix_len, AllPass}
use Rattle.std.proofs.lemmas.Bool.{and_parts, and_from, or_cases, or_left, both_ways, not-true}
use Rattle.std.proofs.lemmas.{Bool.Decides.nat_tests, List.Folds.list_all-append, List.Splits.join_with_byte-slice_split}
use Rattle.std.proofs.lemmas.List.{get_or-drop, get_or-reverse, length-drop, take-append-drop}
use Rattle.std.proofs.lemmas.List.Sums.{AllPass-from_list_all, list_all-from_AllPass, prefix_len_passes, suffix_len-le-length}
use Rattle.jvm_model.specs.Linked.{is_word}
use Rattle.suite_load.specs.NameForms.{is_word_byte, is_identifier, is_test_name}
use Rattle.suite_load.specs.SuiteForm.{slash_for_dot, test_class, test_method}

abbrev is_dot : ℕ → Bool
is_dot b = b == 46

-- a byte of a test's name
abbrev is_name_byte : ℕ → Bool
is_name_byte b = is_word_byte b || is_dot b

-- a code unit of a class's name
abbrev is_class_unit : ℕ → Bool
is_class_unit u = is_word u || nat_eq u 47

word_is : (b : ℕ) → is_word_byte b ≡ true → is_word b ≡ true
word_is b h = grind (arith, nat_tests)

-- a word of bytes, and words that are joined by dots
word_bytes : (bs : List ℕ) → list_all is_word_byte bs ≡ true → list_all is_name_byte bs ≡ true
word_bytes [] h = refl
word_bytes (b ∷ bs) h = let a = and_parts _ _ h in and_from _ _ (or_left _ _ a.0) (word_bytes bs a.1)

joined_bytes : (parts : List (List ℕ)) → list_all is_identifier parts ≡ true → list_all is_name_byte (join_with_byte 46 parts) ≡ true
unfolding is_identifier
joined_bytes [] h = refl
joined_bytes (part ∷ []) h = word_bytes part (and_parts _ _ (and_parts _ _ h).0).1
joined_bytes (part ∷ next ∷ more) h =
    let a = and_parts _ _ h in
    list_all-append is_name_byte part (46 ∷ join_with_byte 46 (next ∷ more)) ∙ and_from _ _ (word_bytes part (and_parts _ _ a.0).1) (joined_bytes (next ∷ more) a.1)

name_bytes : (name : List ℕ) → is_test_name name ≡ true → list_all is_name_byte name ≡ true
unfolding is_test_name
name_bytes name h = sym (ap (list_all is_name_byte) (join_with_byte-slice_split 46 name)) ∙ joined_bytes (slice_split is_dot name) (and_parts _ _ h).1

front_passes : {A : Type 0} (p : A → Bool) (n : ℕ) (xs : List A) → list_all p xs ≡ true → list_all p (take n xs) ≡ true
front_passes p n xs h = (and_parts _ _ (sym (list_all-append p (take n xs) (drop n xs)) ∙ ap (list_all p) (take-append-drop n xs) ∙ h)).0

word_unless_dot : (b : ℕ) → is_name_byte b ≡ true → is_dot b ≡ false → is_word b ≡ true
word_unless_dot b h e = elim (or_cases (is_word_byte b) (is_dot b) h) [ inl w ↦ word_is b w | inr d ↦ absurd (both_ways (is_dot b) e d) ]

class_unit : (b : ℕ) → is_name_byte b ≡ true → is_class_unit (slash_for_dot b) ≡ true
class_unit b h = by (is_dot b) refl
  where
    by : (dot : Bool) → is_dot b ≡ dot → is_class_unit (cond (is_dot b) 47 b) ≡ true
    by true e = rw e refl
    by false e = rw e (or_left (is_word b) (nat_eq b 47) (word_unless_dot b h e))

class_units : (bytes : List ℕ) → list_all is_name_byte bytes ≡ true → list_all is_class_unit (map slash_for_dot bytes) ≡ true
class_units [] h = refl
class_units (b ∷ bs) h = let a = and_parts _ _ h in and_from _ _ (class_unit b a.0) (class_units bs a.1)

pub class_is_words : (name : List ℕ) → is_test_name name ≡ true → list_all is_class_unit (test_class name) ≡ true
unfolding test_class
class_is_words name h =
    let n = length name - suffix_len (λ b. not (is_dot b)) name - 1 in
    class_units (take n name) (front_passes is_name_byte n name (name_bytes name h))

-- behind the last dot is none
no_dot : (name : List ℕ) (k d : ℕ) → length name - suffix_len (λ b. not (is_dot b)) name ≤ k → k < length name → not (is_dot (get_or name k d)) ≡ true
no_dot name k d le lt =
    let short = suffix_len-le-length (λ b. not (is_dot b)) name in
    let j : length name - 1 - k < suffix_len (λ b. not (is_dot b)) name = omega arith in
    let back : length name - 1 - (length name - 1 - k) ≡ k = omega arith in
    let there : length name - 1 - k < length name = omega arith in
    let passes = prefix_len_passes (λ b. not (is_dot b)) (reverse name) (length name - 1 - k) d j in
    let at = get_or-reverse name (length name - 1 - k) d there ∙ ap (λ i. get_or name i d) back in
    ap (λ b. not (is_dot b)) (sym at) ∙ passes

pub method_is_word : (name : List ℕ) → is_test_name name ≡ true → list_all is_word (test_method name) ≡ true
unfolding test_method
method_is_word name h =
    let n = length name - suffix_len (λ b. not (is_dot b)) name in
    let each : AllPass is_name_byte name = AllPass-from_list_all is_name_byte name (name_bytes name h) in
    list_all-from_AllPass is_word (drop n name) (λ k d lt.
    let at = get_or-drop n name k d in
    let there : n + k < length name = omega (arith, length-drop n name) in
    let low : n ≤ n + k = omega arith in
    ap is_word at ∙ word_unless_dot (get_or name (n + k) d) (each (n + k) d there) (not-true _ (no_dot name (n + k) d low there)))
