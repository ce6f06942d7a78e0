-- Each test of a linked program is one.
use Rattle.std.proofs.Common.{◌≡◌, ℕ, suc, ◌+◌, ◌<◌, ◌≤◌, List, [], ◌∷◌, ◌++◌, length, true, false, ◌||◌, nat_eq, nat_le, cond, refl, sym, ◌∙◌, ap, subst, inl, inr, arith, Option, Some, None, Result, Ok, Err, All}
use Rattle.std.specs.Prelude.{is_some, option_and_then}
use Rattle.std.specs.List.{list_all}
use Rattle.std.proofs.lemmas.Bool.{and_parts, or_cases, not-true, leb-true, cond_both}
use Rattle.std.proofs.lemmas.List.{length_push, Elements.All-push}
use Rattle.class_reader.specs.declared.parts.{ClassParts.ClassParts, CodePart.CodePart}
use Rattle.jvm_model.specs.declared.program.{Program.Program, ClassRec.ClassRec, Body.Body, TestEntry.TestEntry}
use Rattle.jvm_model.specs.{Builtin.builtin_count, Suite.suite_limit, RowsCreate.is_bare, Driver.no_arguments, Driver.plain_method_in}
use Rattle.jvm_model.specs.Classes.{class_at, method_at, is_static, is_abstract, is_interface, init_name, upwards}
use Rattle.jvm_model.specs.Linked.{IsMethod, is_word, test_method, IsTest}
use Rattle.class_link.specs.{declared.fault.LinkFault.LinkFault, declared.lines.TestLine.TestLine, ClassNames.all_names, ClassNames.class_number}
use Rattle.class_link.specs.declared.fault.LinkFault.TheVariants as fault
use Rattle.class_link.specs.{Assembly.assembled, Assembly.skeleton, Link.setting, Link.tests_of, Link.is_test_name}
use Rattle.class_link.specs.Faults.{holds_tests, is_test_method, entry_with, test_in, test_entry}
use Rattle.member_lookup.proofs.Alike.{Outline, outline}
use Rattle.class_link.proofs.{Numbered.number_is, Records.class_numbers, Found.declared_named}
use Rattle.class_link.proofs.SkeletonFacts.{class_same, outline_same, test_method_same, plain_method_same}

module _ (body : ClassParts → CodePart → Body) (cs : List ClassParts) (tests : List TestEntry) (files : List (List ℕ × List ℕ)) (budget : ℕ) (within : (0 < budget) × (budget ≤ suite_limit)) where
  abbrev p : Program
  p = assembled body cs tests files

  abbrev q : Program
  q = skeleton cs

  -- the entry is a test
  abbrev pub IsGood : TestEntry → Type 0
  IsGood t = IsTest p t × IsMethod p t.method

  method_good : (x : TestLine) (c m : ℕ) → is_test_name x ≡ true → class_number (all_names cs) x.class ≡ Some c → holds_tests q c ≡ true → test_method q c x.method ≡ Some m → is_test_method q c m ≡ true → IsGood (entry_with budget x c m)
  method_good x c m w e h f g =
      let n = number_is body cs tests files x.class c e in
      let words = and_parts (list_all is_word x.method) _ w in
      let a = and_parts (nat_le builtin_count c) _ h in
      let found : test_method p c x.method ≡ Some m = test_method_same body cs tests files c x.method ∙ f in
      let d = declared_named p (class_numbers body cs tests files) x.method no_arguments (upwards p c) m found in
      let o : outline (method_at p m) ≡ outline (method_at q m) = outline_same body cs tests files m in
      let b = and_parts (is_some (method_at q m).body) _ g in
      let t : IsTest p (entry_with budget x c m) = record {
        given = (leb-true builtin_count c a.0, n.0);
        whole = ap (λ (r : ClassRec). is_abstract r.flags || is_interface r.flags) (class_same body cs tests files c) ∙ not-true (is_bare q c) a.1;
        method = ap (λ (name : List ℕ). test_method p c name) d.1 ∙ found;
        descriptor = d.2;
        code = ap (λ (r : Outline). r.coded) o ∙ b.0;
        init = λ s. plain s b.1 o;
        word = ap (λ (us : List ℕ). list_all is_word us) d.1 ∙ words.0;
        words = ap (λ (us : List ℕ). list_all (λ u. is_word u || nat_eq u 47) us) n.1 ∙ words.1;
        budget = within;
      } in
      (t, d.0)
    where
      plain : is_static (method_at p m).flags ≡ false → (is_static (method_at q m).flags || is_some (plain_method_in q init_name (class_at q c).methods)) ≡ true → outline (method_at p m) ≡ outline (method_at q m) → is_some (plain_method_in p init_name (class_at p c).methods) ≡ true
      plain s k o = elim (or_cases (is_static (method_at q m).flags) _ k) [
        | inl z ↦ absurd (let y : is_static (method_at p m).flags ≡ is_static (method_at q m).flags = ap (λ (r : Outline). is_static r.flags) o in cc)
        | inr z ↦ ap (λ (r : ClassRec). is_some (plain_method_in p init_name r.methods)) (class_same body cs tests files c) ∙ (ap (λ (r : Option ℕ). is_some r) (plain_method_same body cs tests files init_name (class_at q c).methods) ∙ z)
      ]

  class_good : (x : TestLine) (c : ℕ) (t : TestEntry) → is_test_name x ≡ true → class_number (all_names cs) x.class ≡ Some c → test_in q budget x c ≡ Some t → IsGood t
  class_good x c t w e = cond_both (holds_tests q c) _ _ (λ o. o ≡ Some t → IsGood t) (λ g. by_method (test_method q c x.method) refl g) (λ _ h. absurd (cc))
    where
      by_method : (o : Option ℕ) → test_method q c x.method ≡ o → holds_tests q c ≡ true → option_and_then (λ m. cond (is_test_method q c m) (Some (entry_with budget x c m)) None) o ≡ Some t → IsGood t
      by_method None k g = λ z. absurd (cc)
      by_method (Some m) k g = cond_both (is_test_method q c m) _ _ (λ o. o ≡ Some t → IsGood t) (λ l z. let j : entry_with budget x c m ≡ t = cc in subst IsGood j (method_good x c m w e g k l)) (λ _ z. absurd (cc))

  entry_good : (x : TestLine) (t : TestEntry) → is_test_name x ≡ true → test_entry (setting cs) budget x ≡ Some t → IsGood t
  unfolding test_entry
  entry_good x t w h = by_class (class_number (all_names cs) x.class) refl h
    where
      by_class : (o : Option ℕ) → class_number (all_names cs) x.class ≡ o → option_and_then (test_in q budget x) o ≡ Some t → IsGood t
      by_class None k z = absurd (cc)
      by_class (Some c) k z = class_good x c t w k z

  -- what is answered for the lines are tests, as many as there are lines
  pub all_good : (front : List TestEntry) (xs : List TestLine) (ts : List TestEntry) → All IsGood front → list_all is_test_name xs ≡ true → tests_of (setting cs) budget front xs ≡ Ok ts → All IsGood ts × (length ts ≡ length front + length xs)
  all_good front [] ts h w e = let k : front ≡ ts = cc in (subst (λ zs. All IsGood zs) k h, ap length (sym k) ∙ (let z : length front ≡ length front + 0 = omega arith in z))
  all_good front (x ∷ xs) ts h w e = by_entry (test_entry (setting cs) budget x) refl e (λ t g. all_good (front ++ t ∷ []) xs ts (All-push IsGood front t h (entry_good x t (and_parts _ _ w).0 g)) (and_parts (is_test_name x) _ w).1)
    where
      by_entry : (o : Option TestEntry) → test_entry (setting cs) budget x ≡ o → ◌≡◌ {A = Result (List TestEntry) LinkFault} (elim o as (λ z. Result (List TestEntry) LinkFault) [ None ↦ Err (fault.NotATest (length front + 1)) | Some t ↦ tests_of (setting cs) budget (front ++ t ∷ []) xs ]) (Ok ts) →
          ((t : TestEntry) → test_entry (setting cs) budget x ≡ Some t → tests_of (setting cs) budget (front ++ t ∷ []) xs ≡ Ok ts → All IsGood ts × (length ts ≡ length (front ++ t ∷ []) + length xs)) → All IsGood ts × (length ts ≡ length front + suc (length xs))
      by_entry None k z again = absurd (cc)
      by_entry (Some t) k z again = let r = again t k z in let l = length_push front t in (r.0, r.1 ∙ (let y : length (front ++ t ∷ []) + length xs ≡ length front + suc (length xs) = omega arith in y))
