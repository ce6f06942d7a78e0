-- The outcomes of a list of tests, in suite order.
use Rattle.std.proofs.Common.{◌≡◌, ℕ, zero, suc, ◌+◌, ◌-◌, ◌<◌, ◌≤◌, List, [], ◌∷◌, ◌++◌, length, map, get_or, drop, filter, flat_map, sum_by, count_by, cond, nat_eq, Bool, true, false, refl, sym, ap, ◌∙◌, inl, inr, arith, append_assoc, codes, None, All, subst}
use Rattle.std.specs.List.{range_with_len}
use Rattle.std.proofs.lemmas.{Bool.cases_eq, List.append-nil, List.drop_more, List.drop_all}
use Rattle.std.proofs.{lemmas.Bool.Decides.nat_tests, lemmas.List.Sums.sum_by-cons, lemmas.List.Sums.sum_by-append}
use Rattle.jvm_model.specs.declared.{outcome.Outcome.Outcome, program.Names.Names}
use Rattle.jvm_model.specs.Texts.{is_passed, is_failed, is_error, head_line, count_line, verdict_line, outcome_lines, test_lines, report_on}
use Rattle.order_law.specs.Conflicts.{Member}
use Rattle.schedule_plan.proofs.Places.{place_of}
use Rattle.test_run.specs.{declared.tallies.Counts.Counts, Tallies.IsCount}
use Rattle.electrictest.specs.{Orders.paired, Orders.is_of, Orders.by_test, Orders.order_report, Tallies.report_text}

abbrev Listed : Type 0
Listed = List (ℕ × Outcome)

-- ---- lines of one test

-- the lines that are left after the first places
abbrev pub left : Names → ℕ → List ℕ → List Outcome → ℕ → List ℕ
left names t ts os i = test_lines names (filter (is_of t) (paired (drop i ts) (drop i os)))

one_first : (names : Names) (b : Bool) (x : ℕ × Outcome) (xs : Listed) → test_lines names (cond b (x ∷ xs) xs) ≡ test_lines names (cond b (x ∷ []) []) ++ test_lines names xs
one_first names true x xs = ap (λ z. z ++ test_lines names xs) (sym (append-nil (outcome_lines names x.0 x.1)))
one_first names false x xs = refl

left_more : (names : Names) (t : ℕ) (ts : List ℕ) (os : List Outcome) (i : ℕ) (o : Outcome) → i < length ts → length os ≡ length ts → o ≡ get_or os i o →
    left names t ts os i ≡ test_lines names (filter (is_of t) ((get_or ts i 0, o) ∷ [])) ++ left names t ts os (i + 1)
left_more names t ts os i o lt each e =
    let first = drop_more ts i 0 lt in
    let second = drop_more os i o (omega arith) ∙ ap (λ z. z ∷ drop (i + 1) os) (sym e) in
    ap (λ z. test_lines names (filter (is_of t) (paired z (drop i os)))) first
    ∙ ap (λ z. test_lines names (filter (is_of t) (paired (get_or ts i 0 ∷ drop (i + 1) ts) z))) second
    ∙ one_first names (nat_eq (get_or ts i 0) t) (get_or ts i 0, o) (filter (is_of t) (paired (drop (i + 1) ts) (drop (i + 1) os)))

-- one place more was written
pub listed_more : (names : Names) (t : ℕ) (ts : List ℕ) (os : List Outcome) (i : ℕ) (o : Outcome) (a b c : List ℕ) → i < length ts → length os ≡ length ts → o ≡ get_or os i o → a ++ left names t ts os i ≡ c →
    b ≡ a ++ test_lines names (filter (is_of t) ((get_or ts i 0, o) ∷ [])) → b ++ left names t ts os (i + 1) ≡ c
listed_more names t ts os i o a b c lt each e h g =
    let line = test_lines names (filter (is_of t) ((get_or ts i 0, o) ∷ [])) in
    ap (λ z. z ++ left names t ts os (i + 1)) g ∙ append_assoc a line (left names t ts os (i + 1)) ∙ ap (λ z. a ++ z) (sym (left_more names t ts os i o lt each e)) ∙ h

-- all places were
pub listed_all : (names : Names) (t : ℕ) (ts : List ℕ) (os : List Outcome) (i : ℕ) (a c : List ℕ) → length ts ≤ i → a ++ left names t ts os i ≡ c → a ≡ c
listed_all names t ts os i a c le h =
    let none : left names t ts os i ≡ [] = ap (λ z. test_lines names (filter (is_of t) (paired z (drop i os)))) (drop_all i ts le) in
    sym (append-nil a) ∙ ap (λ z. a ++ z) (sym none) ∙ h

-- ---- lines of all tests

lines_both : (names : Names) (xs ys : Listed) → test_lines names (xs ++ ys) ≡ test_lines names xs ++ test_lines names ys
lines_both names [] ys = refl
lines_both names (x ∷ xs) ys = ap (λ z. outcome_lines names x.0 x.1 ++ z) (lines_both names xs ys) ∙ sym (append_assoc (outcome_lines names x.0 x.1) (test_lines names xs) (test_lines names ys))

-- the lines of the tests after the first i
abbrev pub behind : Names → Listed → ℕ → ℕ → List ℕ
behind names xs n i = test_lines names (flat_map (λ t. filter (is_of t) xs) (range_with_len (i + 1) (n - i)))

pub behind_none : (names : Names) (xs : Listed) (n : ℕ) (a : List ℕ) → a ++ behind names xs n 0 ≡ a ++ test_lines names (by_test n xs)
behind_none names xs n a = ap (λ k. a ++ test_lines names (flat_map (λ t. filter (is_of t) xs) (range_with_len 1 k))) (let e : n - 0 ≡ n = omega arith in e)

pub behind_more : (names : Names) (xs : Listed) (n i : ℕ) (a b c : List ℕ) → i < n → a ++ behind names xs n i ≡ c → b ≡ a ++ test_lines names (filter (is_of (i + 1)) xs) → b ++ behind names xs n (i + 1) ≡ c
behind_more names xs n i a b c lt h g =
    let line = test_lines names (filter (is_of (i + 1)) xs) in
    let next = ap (λ k. test_lines names (flat_map (λ t. filter (is_of t) xs) (range_with_len (i + 1) k))) (let e : n - i ≡ suc (n - (i + 1)) = omega arith in e)
    ∙ lines_both names (filter (is_of (i + 1)) xs) (flat_map (λ t. filter (is_of t) xs) (range_with_len (i + 1 + 1) (n - (i + 1)))) in
    ap (λ z. z ++ behind names xs n (i + 1)) g ∙ append_assoc a line (behind names xs n (i + 1)) ∙ ap (λ z. a ++ z) (sym next) ∙ h

pub behind_all : (names : Names) (xs : Listed) (n i : ℕ) (a c : List ℕ) → n ≤ i → a ++ behind names xs n i ≡ c → a ≡ c
behind_all names xs n i a c le h =
    let none : behind names xs n i ≡ [] = ap (λ k. test_lines names (flat_map (λ t. filter (is_of t) xs) (range_with_len (i + 1) k))) (let e : n - i ≡ zero = omega arith in e) in
    sym (append-nil a) ∙ ap (λ z. a ++ z) (sym none) ∙ h

-- ---- sums over the tests in suite order are those over the list

-- v for each time that a number stands among these
abbrev hits : ℕ → ℕ → List ℕ → ℕ
hits v k [] = 0
hits v k (t ∷ l) = cond (nat_eq k t) v 0 + hits v k l

none_hit : (v k a n : ℕ) → k < a → hits v k (range_with_len a n) ≡ 0
none_hit v k a zero h = refl
none_hit v k a (suc n) h =
    let e : nat_eq k a ≡ false = grind (arith, nat_tests) in
    let r = none_hit v k (a + 1) n (omega arith) in
    let q = ap (λ b. cond b v 0 + hits v k (range_with_len (a + 1) n)) e in
    omega arith

one_hit : (v k a n : ℕ) → a ≤ k → k < a + n → hits v k (range_with_len a n) ≡ v
one_hit v k a zero h g = absurd (omega arith)
one_hit v k a (suc n) h g = elim (cases_eq k a) [
  | inl e ↦
      let here : nat_eq k a ≡ true = grind (arith, nat_tests) in
      let r = none_hit v k (a + 1) n (omega arith) in
      let q = ap (λ b. cond b v 0 + hits v k (range_with_len (a + 1) n)) here in
      omega arith
  | inr f ↦
      let other : nat_eq k a ≡ false = grind (arith, nat_tests) in
      let r = one_hit v k (a + 1) n (omega arith) (omega arith) in
      let q = ap (λ b. cond b v 0 + hits v k (range_with_len (a + 1) n)) other in
      omega arith
]

module _ (w : ℕ × Outcome → ℕ) where
  by_one : (b : Bool) (x : ℕ × Outcome) (xs : Listed) → sum_by w (cond b (x ∷ xs) xs) ≡ cond b (w x) 0 + sum_by w xs
  by_one true x xs = sum_by-cons w x xs
  by_one false x xs = omega arith

  one_more : (l : List ℕ) (x : ℕ × Outcome) (xs : Listed) → sum_by w (flat_map (λ t. filter (is_of t) (x ∷ xs)) l) ≡ hits (w x) x.0 l + sum_by w (flat_map (λ t. filter (is_of t) xs) l)
  one_more [] x xs = refl
  one_more (t ∷ l) x xs =
      let a = sum_by-append w (filter (is_of t) (x ∷ xs)) (flat_map (λ u. filter (is_of u) (x ∷ xs)) l) in
      let b = by_one (nat_eq x.0 t) x (filter (is_of t) xs) in
      let c = one_more l x xs in
      let d = sum_by-append w (filter (is_of t) xs) (flat_map (λ u. filter (is_of u) xs) l) in
      omega arith

  none_there : (l : List ℕ) → sum_by w (flat_map (λ t. filter (is_of t) []) l) ≡ 0
  none_there [] = refl
  none_there (t ∷ l) = none_there l

  pub sum_by_test : (n : ℕ) (xs : Listed) → ((x : ℕ × Outcome) → Member x xs → (0 < x.0) × (x.0 ≤ n)) → sum_by w (by_test n xs) ≡ sum_by w xs
  sum_by_test n [] h = none_there (range_with_len 1 n)
  sum_by_test n (x ∷ xs) h =
      let p = h x (inl refl) in
      let pos : 0 < x.0 = p.0 in
      let low : x.0 ≤ n = p.1 in
      let a = one_more (range_with_len 1 n) x xs in
      let b = one_hit (w x) x.0 1 n (omega arith) (omega arith) in
      let c = sum_by_test n xs (λ y m. h y (inr m)) in
      let d = sum_by-cons w x xs in
      omega arith

-- ---- so counts and lengths are

long : (xs : Listed) → length xs ≡ sum_by (λ x. 1) xs
long [] = refl
long (x ∷ xs) = let a = long xs in let b = sum_by-cons (λ (y : ℕ × Outcome). 1) x xs in omega arith

often : (p : Outcome → Bool) (xs : Listed) → count_by p (map (λ x. x.1) xs) ≡ sum_by (λ x. cond (p x.1) 1 0) xs
often p [] = refl
often p (x ∷ xs) =
    let a = often p xs in
    let b = sum_by-cons (λ (y : ℕ × Outcome). cond (p y.1) 1 0) x xs in
    sum_by-cons (λ (o : Outcome). cond (p o) 1 0) x.1 (map (λ y. y.1) xs) ∙ ap (λ n. cond (p x.1) 1 0 + n) a ∙ sym b

in_pairs : (ts : List ℕ) (os : List Outcome) (x : ℕ × Outcome) → Member x (paired ts os) → Member x.0 ts
in_pairs [] os x m = absurd m
in_pairs (t ∷ ts) [] x m = absurd m
in_pairs (t ∷ ts) (o ∷ os) x (inl e) = inl (ap (λ y. y.0) e)
in_pairs (t ∷ ts) (o ∷ os) x (inr m) = inr (in_pairs ts os x m)

second : (ts : List ℕ) (os : List Outcome) → length os ≡ length ts → map (λ x. x.1) (paired ts os) ≡ os
second [] [] e = refl
second [] (o ∷ os) e = absurd (omega arith)
second (t ∷ ts) [] e = absurd (omega arith)
second (t ∷ ts) (o ∷ os) e = ap (λ (z : List Outcome). o ∷ z) (second ts os (omega arith))

pairs_long : (ts : List ℕ) (os : List Outcome) → length os ≡ length ts → length (paired ts os) ≡ length ts
pairs_long [] os e = refl
pairs_long (t ∷ ts) [] e = absurd (omega arith)
pairs_long (t ∷ ts) (o ∷ os) e = ap suc (pairs_long ts os (omega arith))

module _ (names : Names) (ts : List ℕ) (os : List Outcome) (each : length os ≡ length ts) (inside : (t : ℕ) → Member t ts → (0 < t) × (t ≤ length names.tests)) where
  there : (x : ℕ × Outcome) → Member x (paired ts os) → (0 < x.0) × (x.0 ≤ length names.tests)
  there x m = inside x.0 (in_pairs ts os x m)

  count_same : (p : Outcome → Bool) → count_by p os ≡ count_by p (map (λ x. x.1) (by_test (length names.tests) (paired ts os)))
  count_same p =
      ap (count_by p) (sym (second ts os each)) ∙ often p (paired ts os)
      ∙ sym (sum_by_test (λ x. cond (p x.1) 1 0) (length names.tests) (paired ts os) there) ∙ sym (often p (by_test (length names.tests) (paired ts os)))

  length_same : length os ≡ length (by_test (length names.tests) (paired ts os))
  length_same =
      each ∙ sym (pairs_long ts os each) ∙ long (paired ts os)
      ∙ sym (sum_by_test (λ x. 1) (length names.tests) (paired ts os) there) ∙ sym (long (by_test (length names.tests) (paired ts os)))

  -- the head, the lines of the tests and the counts
  order_report_is : (10 ∷ head_line (length os) (length os) None) ++ (test_lines names (by_test (length names.tests) (paired ts os)) ++ verdict_line os)
      ≡ 10 ∷ (head_line (length ts) (length (by_test (length names.tests) (paired ts os))) None ++ (test_lines names (by_test (length names.tests) (paired ts os)) ++ verdict_line (map (λ x. x.1) (by_test (length names.tests) (paired ts os)))))
  order_report_is =
      let xs = by_test (length names.tests) (paired ts os) in
      let line = test_lines names xs in
      ap (λ n. (10 ∷ head_line n (length os) None) ++ (line ++ verdict_line os)) each
      ∙ ap (λ n. (10 ∷ head_line (length ts) n None) ++ (line ++ verdict_line os)) length_same
      ∙ ap (λ n. (10 ∷ head_line (length ts) (length xs) None) ++ (line ++ count_line n (count_by is_failed os) (count_by is_error os))) (count_same is_passed)
      ∙ ap (λ n. (10 ∷ head_line (length ts) (length xs) None) ++ (line ++ count_line (count_by is_passed (map (λ x. x.1) xs)) n (count_by is_error os))) (count_same is_failed)
      ∙ ap (λ n. (10 ∷ head_line (length ts) (length xs) None) ++ (line ++ count_line (count_by is_passed (map (λ x. x.1) xs)) (count_by is_failed (map (λ x. x.1) xs)) n)) (count_same is_error)

  -- what was written by these lines and counts is the report on the order
  pub order_reported_as : (text lines : List ℕ) (c : Counts) → text ≡ report_text (length os) (length os) None lines c → lines ≡ test_lines names (by_test (length names.tests) (paired ts os)) → IsCount os c → text ≡ order_report names ts os
  unfolding report_on
  order_reported_as text lines c reads same h =
      let behind : List ℕ = test_lines names (by_test (length names.tests) (paired ts os)) in
      let written : report_text (length os) (length os) None lines c ≡ codes "electric-run 1" ++ ((10 ∷ head_line (length os) (length os) None) ++ (behind ++ verdict_line os)) =
      (λ i. codes "electric-run 1" ++ (10 ∷ (head_line (length os) (length os) None ++ (same i ++ count_line (h.passed i) (h.failed i) (h.error i))))) in
      reads ∙ (written ∙ ap (λ (z : List ℕ). codes "electric-run 1" ++ z) order_report_is)

-- ---- members

-- what holds at each place holds of each member
pub member_all : (P : ℕ → Type 0) (l : List ℕ) → All P l → (t : ℕ) → Member t l → P t
member_all P l h t m = let p = place_of l t m in subst P p.2 (h p.0 0 p.1)
