-- From class files and the record to report lines.
use Rattle.std.proofs.Common.{◌≡◌, ℕ, zero, suc, ◌+◌, ◌-◌, ◌<◌, ◌≤◌, List, [], ◌∷◌, length, get_or, slice_get, filter, Bool, true, false, ◌||◌, cond, nat_eq, refl, sym, ◌∙◌, ap, subst, inl, inr, arith, Some, Ok, All, IsSome}
use Rattle.std.specs.{List.range_with_len, Str.bytes_eq}
use Rattle.std.proofs.lemmas.{Bool.or_cases, Bool.or_right, Bool.eqb-true, Option.slice_get_within, Option.slice_get-get_or, Option.get_or_from_slice_get}
use Rattle.std.proofs.lemmas.Bool.{not-false}
use Rattle.et_base.proofs.Texts.{units_true}
use Rattle.class_reader.specs.declared.parts.{ClassParts.ClassParts, CodePart.CodePart}
use Rattle.class_reader.specs.ClassGrammar as grammar
use Rattle.jvm_model.specs.declared.program.{Program.Program, ClassRec.ClassRec, TestEntry.TestEntry, Body.Body}
use Rattle.jvm_model.specs.{Builtin.builtin_count, Classes.class_at, Classes.member, State.test_at, State.no_test, Suite.is_detected}
use Rattle.jvm_model.specs.Linked.{Linked, IsDistinct, IsClass}
use Rattle.class_link.specs.{declared.lines.TestLines.TestLines, ClassNames.all_names, Bodies.linked_body}
use Rattle.class_link.specs.Assembly.{mentions, given_classes, assembled, skeleton, bare_body}
use Rattle.class_link.specs.Link.{setting, program_of, Links, AreLines}
use Rattle.class_link.proofs.{Assembled.class_count, Assembled.class_given, Blocks.at_place, Distinct.is_distinct, Listed.AllKnown}
use Rattle.class_link.proofs.LinkLaw.{known_from, coded_from, links_linked, Parts, parts_by}
use Rattle.order_law.specs.{Conflicts.Member, Histories.IsTestNumber, Matched.MatchedCode, Matched.Matched, Numbers.Numbers, Reach.IsRecordOf}
use Rattle.order_law.specs.declared.records.{Prints.Prints, Record.Record, More.More}
use Rattle.order_law.proofs.Members.{true_member}
use Rattle.impact_pick.specs.{Carried.PairedEntry, Carried.IsCarried, Pick.is_changed, Pick.is_picked}
use Rattle.impact_pick.specs.{Unpicked.is_kept, Unpicked.lines_of, Unpicked.KeptClasses, ImpactLaw.HasSums, ImpactLaw.SumsTell, ImpactLaw.ImpactLaw}
use Rattle.impact_pick.proofs.{Unpicked.kept_law, Unpicked.unpicked_law, Resolved.supers_there, Resolved.pools_name, Resolved.code_there}
use Rattle.impact_pick.proofs.{Names.AreKept, Records.n, Starts.skeletons_match, Starts.matched, Lines.line_test, Lines.tests_long, Lines.line_carried}

-- ---- what is mentioned is given

filter_in : (f : ℕ → Bool) (xs : List ℕ) (d : ℕ) → member d (filter f xs) ≡ true → member d xs ≡ true
filter_in f [] d e = absurd (cc)
filter_in f (x ∷ xs) d e = by_test (f x) (filter_in f xs d) e
  where
    split : (b c : Bool) → (member d (filter f xs) ≡ true → c ≡ true) → (b || member d (filter f xs)) ≡ true → (b || c) ≡ true
    split true c again h = refl
    split false c again h = again h

    by_test : (b : Bool) → (member d (filter f xs) ≡ true → member d xs ≡ true) → member d (cond b (x ∷ filter f xs) (filter f xs)) ≡ true → member d (x ∷ xs) ≡ true
    by_test true again h = split (nat_eq d x) (member d xs) again h
    by_test false again h = or_right (nat_eq d x) (member d xs) (again h)

range_in : (k a d : ℕ) → member d (range_with_len a k) ≡ true → (a ≤ d) × (d < a + k)
range_in zero a d e = absurd (cc)
range_in (suc k) a d e = elim (or_cases (nat_eq d a) (member d (range_with_len (a + 1) k)) e) [
  | inl t ↦ let q = eqb-true d a t in (omega arith, omega arith)
  | inr t ↦ let r = range_in k (a + 1) d t in let x = r.0 in let y = r.1 in (omega arith, omega arith)
]

-- ---- the law

module _ (cs ds : List ClassParts) (lines : TestLines) (p q : Program) (x y : Prints) (r : Record) (m : More)
    (cs_are : All grammar.IsClass cs) (ds_are : All grammar.IsClass ds) (few : length cs ≤ 1024) (long : length cs ≡ length ds) (are : AreLines lines) (lp : Links cs lines (Ok p)) (lq : Links ds lines (Ok q))
    (sums : HasSums x cs) (other_sums : HasSums y ds) (tell : SumsTell x y cs ds) (is : IsRecordOf p x r) (e : r.more ≡ Some m) where
  a : Parts cs lines lp.0 p
  a = parts_by cs lines lp.0 p (sym lp.1.1)

  b : Parts ds lines lq.0 q
  b = parts_by ds lines lq.0 q (sym lq.1.1)

  abbrev body : ClassParts → CodePart → Body
  body c code = linked_body (setting cs) c.pool code

  known : AllKnown cs
  known = known_from cs cs_are

  dp : IsDistinct (skeleton cs)
  dp = is_distinct (λ c code. bare_body code) cs [] [] known a.different (λ i j h g k. absurd (omega arith))

  dq : IsDistinct (skeleton ds)
  dq = is_distinct (λ c code. bare_body code) ds [] [] (known_from ds ds_are) b.different (λ i j h g k. absurd (omega arith))

  linked_first : Linked p
  linked_first = links_linked cs lines (Ok p) few cs_are are lp

  linked_second : Linked q
  linked_second = links_linked ds lines (Ok q) (omega arith) ds_are are lq

  kc : KeptClasses p m y
  kc = kept_law p x y r m is e

  abbrev keeps : ℕ → Bool
  keeps = is_kept m y

  count : length p.classes ≡ builtin_count + length cs
  count = ap (λ (z : Program). length z.classes) (sym a.is) ∙ class_count body cs a.tests lines.files

  mentions_are : (i : ℕ) (c : ClassParts) → slice_get cs i ≡ Some c → (class_at p (builtin_count + i)).mentions ≡ mentions (all_names cs) c.pool
  mentions_are i c h = ap (λ (z : Program). (class_at z (builtin_count + i)).mentions) (sym a.is) ∙ ap (λ (z : ClassRec). z.mentions) (class_given body cs a.tests lines.files i c h)

  within : (c : ℕ) → keeps c ≡ true → c < builtin_count + length cs
  within c k = let g = (kc.given c k).1 in let n = count in omega arith

  -- a kept class file stands in both
  unchanged_is : (i : ℕ) (c : ClassParts) → is_changed m y (suc i) ≡ false → slice_get cs i ≡ Some c → slice_get ds i ≡ Some c
  unchanged_is i c f h =
      let w = slice_get_within cs i c h in
      let same : m.classes ≡ x.classes = (is.more m e).classes in
      let t : bytes_eq (get_or m.classes (suc i - 1) []) (get_or y.classes (suc i - 1) []) ≡ true = not-false (bytes_eq (get_or m.classes (suc i - 1) []) (get_or y.classes (suc i - 1) [])) f in
      let z : suc i - 1 ≡ i = omega arith in
      let u : get_or x.classes i [] ≡ get_or y.classes i [] = ap (λ (l : List (List ℕ)). get_or l i []) (sym same) ∙ (ap (λ (k : ℕ). get_or m.classes k []) (sym z) ∙ (units_true _ _ t ∙ ap (λ (k : ℕ). get_or y.classes k []) z)) in
      let v = slice_get-get_or x.classes i [] (omega arith) in
      let l = slice_get-get_or y.classes i [] (omega arith) in
      sym (tell i (get_or x.classes i []) v (l ∙ ap (λ (g : List ℕ). Some g) (sym u))) ∙ h

  kept : AreKept cs ds keeps
  kept = record {
    given = λ c k. (kc.given c k).0;
    within = within;
    agree = λ i c k h. (let f = kc.unchanged (builtin_count + i) k in let z : (builtin_count + i) - (builtin_count - 1) ≡ suc i = omega arith in unchanged_is i c (subst (λ (j : ℕ). is_changed m y j ≡ false) z f) h);
    closed = λ i d c k h g. (
        let in_range = filter_in _ (given_classes (all_names cs)) d g in
        let low = (range_in _ builtin_count d in_range).0 in
        let f = subst (λ (l : List ℕ). Member d l) (sym (mentions_are i c h)) (true_member d (mentions (all_names cs) c.pool) g) in
        let class : IsClass p (builtin_count + i) = (let n = count in let w = slice_get_within cs i c h in omega arith) in
        kc.closed (builtin_count + i) d k f (low, all_member (λ z. IsClass p z) (class_at p (builtin_count + i)).mentions d (linked_first.numbers.classes (builtin_count + i) class).mentions f));
  }
    where
      all_member : (P : ℕ → Type 0) (xs : List ℕ) (d : ℕ) → All P xs → Member d xs → P d
      all_member P [] d h i = absurd i
      all_member P (x ∷ xs) d h i = elim i [ inl g ↦ subst P (sym g) (h 0 0 (omega arith)) | inr k ↦ all_member P xs d (λ j z w. h (suc j) z (omega arith)) k ]

  abbrev N : Numbers
  N = n cs ds keeps kept dp dq

  abbrev skeletons : MatchedCode N (skeleton cs) (skeleton ds)
  skeletons = skeletons_match cs ds keeps kept dp dq a.tests b.tests lines.files lines.files (supers_there cs known a.headed ds keeps kept dp dq) (pools_name cs known a.headed)

  programs_match : Matched N p q
  programs_match = subst (λ (z : Program). Matched N z q) a.is (subst (λ (z : Program). Matched N (program_of cs a.tests lines.files) z) b.is
      (matched cs ds keeps kept dp dq a.tests b.tests lines.files lines.files (supers_there cs known a.headed ds keeps kept dp dq) (pools_name cs known a.headed)
      (λ i c keep has k x code g s. code_there cs known a.headed ds keeps kept dp dq (coded_from cs known) a.resolved skeletons i k c x code keep has g s)))

  -- ---- tests

  first_tests : p.tests ≡ a.tests
  unfolding assembled
  first_tests = ap (λ (z : Program). z.tests) (sym a.is)

  second_tests : q.tests ≡ b.tests
  unfolding assembled
  second_tests = ap (λ (z : Program). z.tests) (sym b.is)

  first_files : p.files ≡ lines.files
  unfolding assembled
  first_files = ap (λ (z : Program). z.files) (sym a.is)

  second_files : q.files ≡ lines.files
  unfolding assembled
  second_files = ap (λ (z : Program). z.files) (sym b.is)

  first_long : length p.tests ≡ length lines.tests
  first_long = let e = ap length first_tests in let f = tests_long (setting cs) lines.budget [] lines.tests a.tests a.tests_are in omega arith

  second_long : length q.tests ≡ length lines.tests
  second_long = let e = ap length second_tests in let f = tests_long (setting ds) lines.budget [] lines.tests b.tests b.tests_are in omega arith

  carried : (u : ℕ) → IsTestNumber p u → keeps (test_at p u).class ≡ true → IsCarried N p q u
  carried u low k =
      let h = low.0 in
      let g = low.1 in
      let l = first_long in
      let z = at_place lines.tests (u - 1) (omega arith) in
      let s = line_test (setting cs) lines.budget lines.tests a.tests a.tests_are (u - 1) z.item z.there in
      let t = line_test (setting ds) lines.budget lines.tests b.tests b.tests_are (u - 1) z.item z.there in
      let v : test_at p u ≡ s.test = ap (λ (y : List TestEntry). get_or y (u - 1) no_test) first_tests ∙ get_or_from_slice_get a.tests (u - 1) s.test no_test s.there in
      let w : test_at q u ≡ t.test = ap (λ (y : List TestEntry). get_or y (u - 1) no_test) second_tests ∙ get_or_from_slice_get b.tests (u - 1) t.test no_test t.there in
      let c = line_carried cs ds keeps kept dp dq skeletons lines.budget z.item s.test t.test s.is t.is (subst (λ (y : TestEntry). keeps y.class ≡ true) v k) in
      subst (λ (y : TestEntry). PairedEntry N y (test_at q u)) (sym v) (subst (λ (y : TestEntry). PairedEntry N s.test y) (sym w) c)

  pub unpicked_same : (tests : List (List ℕ)) (t : ℕ) → is_detected p ≡ true → is_detected q ≡ true → IsTestNumber p t → is_picked m q y t ≡ false → IsSome (lines_of tests p t) × (lines_of tests q t ≡ lines_of tests p t)
  unpicked_same tests t first second low unpicked =
      unpicked_law N p q x y r m tests t linked_first linked_second (first_files ∙ sym second_files) (first_long ∙ sym second_long) first second is e programs_match carried low unpicked

pub impact_law : ImpactLaw
impact_law cs ds lines p q x y r m tests t cs_are ds_are few long are lp lq first second sums other_sums tell is e low unpicked =
    unpicked_same cs ds lines p q x y r m cs_are ds_are few long are lp lq sums other_sums tell is e tests t first second low unpicked
