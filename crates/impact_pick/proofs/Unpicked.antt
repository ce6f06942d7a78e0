-- From the record and the matching to report lines.
use Rattle.std.proofs.Common.{◌≡◌, ℕ, zero, suc, ◌+◌, ◌-◌, ◌<◌, ◌≤◌, get_or, slice_get, map, List, [], ◌∷◌, Bool, true, false, not, ◌&&◌, nat_le, refl, sym, ◌∙◌, ap, subst, inl, inr, arith, Option, Some}
use Rattle.std.specs.Prelude.{option_map, IsSome, is_some, codes, decimal, ◌++◌}
use Rattle.std.specs.List.{list_any, range_with_len}
use Rattle.std.proofs.lemmas.Bool.{cases_Bool, cases_lt, and_parts, and_from, or_cases, or_parts, not-true, not_from_false, leb-true, le-leb, not-false}
use Rattle.std.proofs.{lemmas.Map.Keys.any_passes_from_place, Math.ListN.get_or-map, lemmas.Option.slice_get-get_or}
use Rattle.et_base.specs.Quotes.{name_of}
use Rattle.jvm_model.specs.declared.{outcome.Cause.Cause, outcome.Outcome.Outcome, outcome.Verdict.Verdict, program.ClassRec.ClassRec, program.Program.Program}
use Rattle.jvm_model.specs.{Builtin.builtin_count, Classes.class_at, Classes.no_class, State.test_at, State.no_test}
use Rattle.jvm_model.specs.Linked.{Linked, IsGiven, IsTest}
use Rattle.jvm_model.specs.Texts.{cause_text, message_text, verdict_text, out_line, outcome_lines}
use Rattle.order_law.specs.{Conflicts.Member, Histories.IsTestNumber, Matched.Matched, Numbers.Numbers}
use Rattle.order_law.specs.declared.records.{Prints.Prints, Reach.Reach, More.More}
use Rattle.order_law.specs.Outcomes.{PairedCause, PairedVerdict, both_passed, both_failed, both_error, PairedOutcome}
use Rattle.order_law.specs.Reach.{Reaches, own, touched, mentioned, IsMoreOf, is_settled, puts_out_somewhere}
use Rattle.order_law.proofs.Members.{member_true, true_member}
use Rattle.impact_pick.specs.Carried.{IsCarried, GivesSame}
use Rattle.impact_pick.specs.Pick.{is_changed, is_hit, is_open, is_after_hit, is_picked, reach_at, no_reach}
use Rattle.impact_pick.specs.Unpicked.{holds_unchanged, is_kept, named, lines_of, KeptClasses, KeptLaw, UnpickedLaw}
use Rattle.impact_pick.proofs.Carried.{carried_law}

-- ---- lists

-- an item that a test finds in a list
record Finds {A : Type 0} (f : A → Bool) (xs : List A) : Type 0 where
  place : ℕ
  item : A
  there : slice_get xs place ≡ Some item
  passes : f item ≡ true

finds : {A : Type 0} (f : A → Bool) (xs : List A) → list_any f xs ≡ true → Finds f xs
finds f [] e = absurd (cc)
finds f (x ∷ xs) e = elim (or_cases (f x) (list_any f xs) e) [
  | inl h ↦ record { place = 0; item = x; there = refl; passes = h }
  | inr h ↦ let r = finds f xs h in record { place = suc r.place; item = r.item; there = r.there; passes = r.passes }
]

none_member : (f : ℕ → Bool) (xs : List ℕ) (j : ℕ) → list_any f xs ≡ false → Member j xs → f j ≡ false
none_member f [] j e i = absurd i
none_member f (x ∷ xs) j e i = let p = or_parts (f x) (list_any f xs) e in elim i [ inl g ↦ ap f g ∙ p.0 | inr k ↦ none_member f xs j p.1 k ]

none_in_range : (f : ℕ → Bool) (n a u : ℕ) → list_any f (range_with_len a n) ≡ false → a ≤ u → u < a + n → f u ≡ false
none_in_range f zero a u e lo hi = absurd (omega arith)
none_in_range f (suc n) a u e lo hi = let p = or_parts (f a) (list_any f (range_with_len (a + 1) n)) e in elim (cases_lt a u) [
  | inl l ↦ none_in_range f n (a + 1) u p.1 (omega arith) (omega arith)
  | inr l ↦ let k : u ≡ a = omega arith in ap f k ∙ p.0
]

-- ---- the classes that are kept

module _ (p : Program) (x y : Prints) (m : More) (is : IsMoreOf p x m) where
  abbrev ReachesHere : ℕ → ℕ → Type 0
  ReachesHere i c = Reaches p (i + 1) c

  -- a kept class stands in the reach of an unhit test
  record Kept (c : ℕ) : Type 0 where
    above : builtin_count ≤ c
    test : ℕ
    reach : Reach
    there : slice_get m.reach test ≡ Some reach
    unhit : list_any (is_changed m y) reach.classes ≡ false
    listed : Member (c - (builtin_count - 1)) reach.classes

  kept_is : (c : ℕ) → is_kept m y c ≡ true → Kept c
  unfolding is_kept
  kept_is c e =
      let a = and_parts (nat_le builtin_count c) _ e in
      let f = finds (holds_unchanged m y c) m.reach a.1 in
      let b = and_parts (not (list_any (is_changed m y) f.item.classes)) _ f.passes in
      record { above = leb-true builtin_count c a.0; test = f.place; reach = f.item; there = f.there; unhit = not-true _ b.0; listed = true_member _ f.item.classes b.1 }

  reaches_given : (i c : ℕ) → ReachesHere i c → IsGiven p c
  reaches_given i c (own g) = g
  reaches_given i c (touched o b e g) = g
  reaches_given i c (mentioned r e g) = g

  kept_given : (c : ℕ) → is_kept m y c ≡ true → IsGiven p c
  kept_given c e =
      let k = kept_is c e in
      let low = k.above in
      let s : (c - (builtin_count - 1)) + (builtin_count - 1) ≡ c = omega arith in
      reaches_given k.test c (subst (λ (z : ℕ). ReachesHere k.test z) s (((is.reach k.test k.reach k.there).classes (c - (builtin_count - 1))).0 k.listed))

  kept_from : (c : ℕ) → Kept c → is_kept m y c ≡ true
  unfolding is_kept
  kept_from c k = and_from (nat_le builtin_count c) _ (le-leb builtin_count c k.above) (any_passes_from_place (holds_unchanged m y c) m.reach k.test k.reach k.there
      (and_from (not (list_any (is_changed m y) k.reach.classes)) _ (not_from_false _ k.unhit) (member_true _ k.reach.classes k.listed)))

  kept_closed : (c d : ℕ) → is_kept m y c ≡ true → Member d (class_at p c).mentions → IsGiven p d → is_kept m y d ≡ true
  kept_closed c d e i g =
      let k = kept_is c e in
      let low = k.above in
      let lowd = g.0 in
      let r = is.reach k.test k.reach k.there in
      let s : (c - (builtin_count - 1)) + (builtin_count - 1) ≡ c = omega arith in
      let sd : (d - (builtin_count - 1)) + (builtin_count - 1) ≡ d = omega arith in
      let a = subst (λ (z : ℕ). ReachesHere k.test z) s ((r.classes (c - (builtin_count - 1))).0 k.listed) in
      kept_from d (record { above = g.0; test = k.test; reach = k.reach; there = k.there; unhit = k.unhit; listed = (r.classes (d - (builtin_count - 1))).1 (subst (λ (z : ℕ). ReachesHere k.test z) (sym sd) (mentioned a i g)) })

  pub kept_classes : KeptClasses p m y
  kept_classes = record {
    given = kept_given;
    unchanged = λ c e. let k = kept_is c e in none_member (is_changed m y) k.reach.classes (c - (builtin_count - 1)) k.unhit k.listed;
    closed = kept_closed;
  }

  -- ---- tests

  module _ (lk : Linked p) (u : ℕ) (low : IsTestNumber p u) (unhit : is_hit m y u ≡ false) where
    is_test : IsTest p (test_at p u)
    is_test = let h = low.0 in let g = low.1 in lk.tests (u - 1) no_test (omega arith)

    -- the class of an unhit test is kept
    pub test_kept : is_kept m y (test_at p u).class ≡ true
    test_kept =
        let h = low.0 in let g = low.1 in let n = is.length in
        let a = slice_get-get_or m.reach (u - 1) no_reach (omega arith) in
        let r = is.reach (u - 1) (reach_at m u) a in
        let v : u - 1 + 1 ≡ u = omega arith in
        let c = (test_at p u).class in
        let given = is_test.given in
        let b = given.0 in
        let s : (c - (builtin_count - 1)) + (builtin_count - 1) ≡ c = omega arith in
        let o : Reaches p (u - 1 + 1) c = subst (λ (z : ℕ). Reaches p z c) (sym v) (own given) in
        kept_from c (record { above = b; test = u - 1; reach = reach_at m u; there = a; unhit = unhit; listed = (r.classes (c - (builtin_count - 1))).1 (subst (λ (z : ℕ). Reaches p (u - 1 + 1) z) (sym s) o) })

    -- whether it is settled the record says
    pub settled_said : (reach_at m u).settled ≡ is_settled p u
    settled_said =
        let h = low.0 in let g = low.1 in let n = is.length in
        let v : u - 1 + 1 ≡ u = omega arith in
        (is.reach (u - 1) (reach_at m u) (slice_get-get_or m.reach (u - 1) no_reach (omega arith))).settled ∙ ap (λ (z : ℕ). is_settled p z) v

pub kept_law : KeptLaw
kept_law p x y r m is e = kept_classes p x y m (is.more m e)

-- ---- lines

module _ (n : Numbers) (p q : Program) (mt : Matched n p q) (tests : List (List ℕ)) (t : ℕ) where
  class_name : (r : Program) (c : ℕ) → get_or (map (λ (z : ClassRec). name_of z.name) r.classes) c [] ≡ name_of (class_at r c).name
  class_name r c = get_or-map (λ (z : ClassRec). name_of z.name) r.classes c no_class

  cause_same : {a b : Cause} → PairedCause n a b → cause_text (named tests p) a ≡ cause_text (named tests q) b
  cause_same {a} {b} e =
      let k = class_name p a.class ∙ (ap name_of (mt.code.classes a.class b.class e.class).name ∙ sym (class_name q b.class)) in
      ap (λ (z : List ℕ). z ++ message_text a.message) k ∙ ap (λ (z : Option (List ℕ)). get_or (map (λ (c : ClassRec). name_of c.name) q.classes) b.class [] ++ message_text z) e.message

  verdict_same : {a b : Verdict} → PairedVerdict n a b → verdict_text (named tests p) a ≡ verdict_text (named tests q) b
  verdict_same both_passed = refl
  verdict_same (both_failed e) = ap (λ (z : List ℕ). codes "failed " ++ z) (cause_same e)
  verdict_same (both_error e) = ap (λ (z : List ℕ). codes "error " ++ z) (cause_same e)

  line_with : List ℕ → ℕ → List ℕ → List ℕ
  line_with v u o = (codes "test " ++ (decimal t ++ (32 ∷ (get_or tests (t - 1) [] ++ (32 ∷ (v ++ (codes " units " ++ (decimal u ++ (10 ∷ []))))))))) ++ out_line o

  lines_same : {a b : Outcome} → PairedOutcome n a b → outcome_lines (named tests p) t a ≡ outcome_lines (named tests q) t b
  unfolding outcome_lines line_with
  lines_same {a} {b} e =
      ap (λ (v : List ℕ). line_with v a.units a.output) (verdict_same e.verdict)
      ∙ (ap (λ (u : ℕ). line_with (verdict_text (named tests q) b.verdict) u a.output) e.units
      ∙ ap (λ (o : List ℕ). line_with (verdict_text (named tests q) b.verdict) b.units o) e.output)

  pub report_same : GivesSame n p q t → IsSome (lines_of tests p t) × (lines_of tests q t ≡ lines_of tests p t)
  report_same g =
      let a = ap (λ (z : Option Outcome). option_map (outcome_lines (named tests p) t) z) g.first_is in
      let b = ap (λ (z : Option Outcome). option_map (outcome_lines (named tests q) t) z) g.second_is in
      (ap (λ (z : Option (List ℕ)). is_some z) a, b ∙ (ap (λ (z : List ℕ). Some z) (sym (lines_same g.same)) ∙ sym a))

-- ---- the law

pub unpicked_law : UnpickedLaw
unfolding is_picked
unpicked_law n p q x y r m tests t lp lq fs ts dp dq is e mt carried low unpicked =
    let more = is.more m e in
    let a = or_parts (is_hit m y t) (is_open m q t && is_after_hit m y t) unpicked in
    let here : (u : ℕ) → IsTestNumber p u → is_hit m y u ≡ false → IsCarried n p q u = λ u l h. carried u l (test_kept p x y m more lp u l h) in
    report_same n p q mt tests t (carried_law p q n t lp lq mt fs ts dp dq low (here t low a.0) (elim (cases_Bool (is_after_hit m y t)) [
      | inr f ↦ inl (λ u lo hi. let top = low.1 in here u (lo, (omega arith)) (none_in_range (is_hit m y) (t - 1) 1 u f (omega arith) (omega arith)))
      | inl f ↦
          let o : is_open m q t ≡ false = closed_by (is_open m q t) (is_after_hit m y t) a.1 f in
          let b = or_parts (not (reach_at m t).settled) (puts_out_somewhere q) o in
          inr (sym (settled_said p x y m more lp t low a.0) ∙ not-false (reach_at m t).settled b.0, b.1)
    ]))
  where
    closed_by : (b c : Bool) → (b && c) ≡ false → c ≡ true → b ≡ false
    closed_by true c g h = absurd (cc)
    closed_by false c g h = refl
