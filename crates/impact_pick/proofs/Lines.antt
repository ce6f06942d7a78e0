-- A test line that gives a test of a kept class gives the same one in both lists.
use Rattle.std.proofs.Common.{◌≡◌, ℕ, zero, suc, ◌+◌, List, [], ◌∷◌, ◌++◌, length, slice_get, Bool, true, cond, refl, sym, ◌∙◌, ap, subst, inr, arith, Option, Some, None, Result, Ok, Err}
use Rattle.std.specs.Prelude.{option_and_then}
use Rattle.std.proofs.lemmas.{Bool.cond_both, List.length_push}
use Rattle.class_reader.specs.declared.parts.ClassParts.{ClassParts}
use Rattle.jvm_model.specs.{declared.program.TestEntry.TestEntry, Linked.IsDistinct, Linked.test_method}
use Rattle.class_link.specs.declared.{fault.LinkFault.LinkFault, lines.TestLine.TestLine, link_environment.LinkEnvironment.LinkEnvironment}
use Rattle.class_link.specs.declared.fault.LinkFault.TheVariants as fault
use Rattle.class_link.specs.{ClassNames.all_names, ClassNames.class_number, Assembly.skeleton, Link.setting, Link.tests_of}
use Rattle.class_link.specs.Faults.{holds_tests, is_test_method, entry_with, test_in, test_entry}
use Rattle.class_link.proofs.Blocks.{left_place, right_place}
use Rattle.order_law.specs.{Numbers.Numbers, Matched.MatchedCode}
use Rattle.impact_pick.specs.{Carried.PairedEntry, ByName.same_class, ByName.by_name}
use Rattle.impact_pick.proofs.{ByNames.class_from, Lookups.test_found, Names.AreKept, Names.number_alike, Records.n, Targets.partner}

-- ---- tests of lines

module _ (s : LinkEnvironment) (budget : ℕ) where
  by_entry : {X : Type 0} (front : List TestEntry) (xs : List TestLine) (ts : List TestEntry) (o : Option TestEntry) →
      ◌≡◌ {A = Result (List TestEntry) LinkFault} (elim o as (λ z. Result (List TestEntry) LinkFault) [ None ↦ Err (fault.NotATest (length front + 1)) | Some t ↦ tests_of s budget (front ++ t ∷ []) xs ]) (Ok ts) →
      ((t : TestEntry) → o ≡ Some t → tests_of s budget (front ++ t ∷ []) xs ≡ Ok ts → X) → X
  by_entry front xs ts None e f = absurd (cc)
  by_entry front xs ts (Some t) e f = f t refl e

  front_kept : (front : List TestEntry) (xs : List TestLine) (ts : List TestEntry) → tests_of s budget front xs ≡ Ok ts → (j : ℕ) (y : TestEntry) → slice_get front j ≡ Some y → slice_get ts j ≡ Some y
  front_kept front [] ts e j y g = let k : front ≡ ts = cc in subst (λ (z : List TestEntry). slice_get z j ≡ Some y) k g
  front_kept front (x ∷ xs) ts e j y g = by_entry front xs ts (test_entry s budget x) e (λ t o h. front_kept (front ++ t ∷ []) xs ts h j y (left_place front (t ∷ []) j y g))

  pub record TestOf (ts : List TestEntry) (place : ℕ) (x : TestLine) : Type 0 where
    pub test : TestEntry
    pub is : test_entry s budget x ≡ Some test
    pub there : slice_get ts place ≡ Some test

  pub test_of : (front : List TestEntry) (xs : List TestLine) (ts : List TestEntry) → tests_of s budget front xs ≡ Ok ts → (k : ℕ) (x : TestLine) → slice_get xs k ≡ Some x → TestOf ts (length front + k) x
  test_of front [] ts e k x g = absurd (cc)
  test_of front (y ∷ xs) ts e zero x g = by_entry front xs ts (test_entry s budget y) e (λ t o h. record {
    test = t;
    is = (let q : x ≡ y = cc in ap (test_entry s budget) q ∙ o);
    there = front_kept (front ++ t ∷ []) xs ts h (length front + 0) t (right_place front (t ∷ []) 0);
  })
  test_of front (y ∷ xs) ts e (suc k) x g = by_entry front xs ts (test_entry s budget y) e (λ t o h.
      let l = length_push front t in
      let q : length (front ++ t ∷ []) + k ≡ length front + suc k = omega arith in
      subst (λ (z : ℕ). TestOf ts z x) q (test_of (front ++ t ∷ []) xs ts h k x g))

  -- the test of each line
  pub line_test : (xs : List TestLine) (ts : List TestEntry) → tests_of s budget [] xs ≡ Ok ts → (k : ℕ) (x : TestLine) → slice_get xs k ≡ Some x → TestOf ts k x
  line_test xs ts e k x g = let z : 0 + k ≡ k = omega arith in subst (λ (j : ℕ). TestOf ts j x) z (test_of [] xs ts e k x g)

  pub tests_long : (front : List TestEntry) (xs : List TestLine) (ts : List TestEntry) → tests_of s budget front xs ≡ Ok ts → length ts ≡ length front + length xs
  tests_long front [] ts e = let k : front ≡ ts = cc in ap length (sym k) ∙ (let z : length front ≡ length front + 0 = omega arith in z)
  tests_long front (x ∷ xs) ts e = by_entry front xs ts (test_entry s budget x) e (λ t o h. let l = length_push front t in let r = tests_long (front ++ t ∷ []) xs ts h in omega arith)

  -- what a line's test is
  pub record TestIs (x : TestLine) (t : TestEntry) : Type 0 where
    pub class : ℕ
    pub method : ℕ
    pub number : class_number s.names x.class ≡ Some class
    pub found : test_method s.program class x.method ≡ Some method
    pub made : entry_with budget x class method ≡ t

  class_is : (x : TestLine) (c : ℕ) (t : TestEntry) → class_number s.names x.class ≡ Some c → test_in s.program budget x c ≡ Some t → TestIs x t
  class_is x c t e = cond_both (holds_tests s.program c) _ _ (λ o. o ≡ Some t → TestIs x t) (λ _. by_method (test_method s.program c x.method) refl) (λ _ h. absurd (cc))
    where
      by_method : (o : Option ℕ) → test_method s.program c x.method ≡ o → option_and_then (λ m. cond (is_test_method s.program c m) (Some (entry_with budget x c m)) None) o ≡ Some t → TestIs x t
      by_method None k = λ z. absurd (cc)
      by_method (Some m) k = cond_both (is_test_method s.program c m) _ _ (λ o. o ≡ Some t → TestIs x t) (λ _ z. let j : entry_with budget x c m ≡ t = cc in record { class = c; method = m; number = e; found = k; made = j }) (λ _ z. absurd (cc))

  pub test_is : (x : TestLine) (t : TestEntry) → test_entry s budget x ≡ Some t → TestIs x t
  unfolding test_entry
  test_is x t h = by_class (class_number s.names x.class) refl h
    where
      by_class : (o : Option ℕ) → class_number s.names x.class ≡ o → option_and_then (test_in s.program budget x) o ≡ Some t → TestIs x t
      by_class None k z = absurd (cc)
      by_class (Some c) k z = class_is x c t k z

-- ---- in both

some_same : {A : Type 0} (o : Option A) (x y : A) → o ≡ Some x → o ≡ Some y → x ≡ y
some_same o x y e f = let q : Some x ≡ Some y = sym e ∙ f in cc

module _ (cs ds : List ClassParts) (keeps : ℕ → Bool) (kept : AreKept cs ds keeps) (dp : IsDistinct (skeleton cs)) (dq : IsDistinct (skeleton ds)) (sk : MatchedCode (n cs ds keeps kept dp dq) (skeleton cs) (skeleton ds)) where
  abbrev N : Numbers
  N = n cs ds keeps kept dp dq

  pub line_carried : (budget : ℕ) (x : TestLine) (t u : TestEntry) → test_entry (setting cs) budget x ≡ Some t → test_entry (setting ds) budget x ≡ Some u → keeps t.class ≡ true → PairedEntry N t u
  unfolding by_name
  line_carried budget x t u e f k =
      let a = test_is (setting cs) budget x t e in
      let b = test_is (setting ds) budget x u f in
      let q : a.class ≡ t.class = ap (λ (z : TestEntry). z.class) a.made in
      let w : keeps a.class ≡ true = ap keeps q ∙ k in
      let g : class_number (all_names ds) x.class ≡ Some a.class = number_alike cs ds keeps kept dq x.class a.class a.number (inr w) in
      let same : a.class ≡ b.class = some_same (class_number (all_names ds) x.class) a.class b.class g b.number in
      let c = class_from keeps (skeleton cs) (skeleton ds) a.class (inr w) in
      let m = partner a.method (test_found N (skeleton cs) (skeleton ds) sk a.class a.class x.method c) a.found in
      let other : m.other ≡ b.method = some_same (test_method (skeleton ds) a.class x.method) m.other b.method m.is (ap (λ (z : ℕ). test_method (skeleton ds) z x.method) same ∙ b.found) in
      subst (λ (z : TestEntry). PairedEntry N z u) a.made (subst (λ (z : TestEntry). PairedEntry N (entry_with budget x a.class a.method) z) b.made (record {
        test = record {
          class = subst (λ (z : ℕ). same_class keeps a.class z ≡ true) same c;
          method = subst (λ (z : ℕ). N.method a.method z ≡ true) other m.paired;
          clock = refl;
          seed = refl;
        };
        budget = refl;
      }))
