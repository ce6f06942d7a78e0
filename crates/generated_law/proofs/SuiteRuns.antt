-- The generated suite is detected within its limits, and its tests pass.
use Rattle.std.proofs.Common.{◌≡◌, ℕ, zero, suc, ◌+◌, ◌-◌, ◌*◌, ◌%◌, ◌<◌, ◌≤◌, Bool, true, false, not, ◌&&◌, cond, eqb, nat_le, pos, is_some, List, [], ◌∷◌, length, map, filter, flat_map, get_or, decimal, slice_get, count_by, Some, None, refl, sym, ap, subst, ◌∙◌, arith}
use Rattle.std.specs.Prelude.{codes}
use Rattle.std.specs.List.{list_all, list_any, range_with_len}
use Rattle.std.proofs.lemmas.Bool.{and_from, le-leb, eqb-true, eq-eqb, ne_eqb, both_ways}
use Rattle.std.proofs.lemmas.{Fmt.length-decimal-le, List.length-append, List.FromFn.length-map-range_with_len, List.FromFn.get_or-map-range_with_len}
use Rattle.et_base.proofs.Cases.{by_test}
use Rattle.jvm_model.specs.declared.values.Value.TheVariants as value
use Rattle.jvm_model.specs.declared.{values.Touch.Touch, outcome.Outcome.Outcome, outcome.Verdict.TheVariants.Passed}
use Rattle.jvm_model.specs.declared.values.Location.TheVariants as place
use Rattle.jvm_model.specs.declared.library.Native.TheVariants as native
use Rattle.jvm_model.specs.declared.program.{Program.Program, ClassRec.ClassRec, FieldRec.FieldRec, MethodRec.MethodRec, TestEntry.TestEntry}
use Rattle.jvm_model.specs.{Library.builtin_defs, Library.builtin_classes, Library.builtin_methods, World.World, World.at, World.put, Access.Ran, Access.run}
use Rattle.jvm_model.specs.Classes.{no_class, no_method, class_at, method_at, is_interface, is_static, class_bound, upwards, lineage_in, first_mentions, own_interfaces, is_default_method, default_interfaces, declares_start, is_trivial}
use Rattle.jvm_model.specs.State.{no_test, test_at, started}
use Rattle.jvm_model.specs.Suite.{opening, finished, End, whole, tree, Given, given_at, one_test, with_first, runs_on, runs, all_tests, outcome_in, given_by_test, seq, units_of, within_limit, suite_limit, is_detected}
use Rattle.jvm_model.proofs.{BuiltinRules.builtin_class, BuiltinRules.builtin_method, Locations.at_put_same}
use Rattle.order_law.specs.{Conflicts.Member, Conflicts.down, Histories.after_history, Histories.touches_of, OwnRecord.owner, Reach.units_in}
use Rattle.suite_gen.specs.Generated.{group_of}
use Rattle.generated_law.specs.GeneratedSuite.{field_number, method_number, print_number, gen_program, setting_body, printing_body, adding_body, gen_body, gen_test, generated_program}
use Rattle.generated_law.specs.GeneratedRun.{value_before, line_of, passed_with, outcome_of, RunLaw}
use Rattle.generated_law.specs.GeneratedRecord.{touch_of, touches_at, is_raw, is_waw, is_war, RecordLaw, ChainLaw}
use Rattle.generated_law.proofs.Members.{class_is, field_is, method_is, holds_builtins, object_is, object_above, object_interfaces, two_up}
use Rattle.generated_law.proofs.{TestSteps.Prints, OwnChains.count_chains, TestRuns.CallsOn, TestRuns.setting_run, TestRuns.printing_run, TestRuns.adding_run}
use Rattle.generated_law.proofs.OwnEdges.{raw_count, waw_count, war_count}

-- ---- classes that are used without a step

not_started : (p : Program) (c : ℕ) → (class_at p c).initialiser ≡ None → (class_at p c).interfaces ≡ [] → (not (declares_start p c) && list_all (λ i. not (declares_start p i)) (default_interfaces p c)) ≡ true
unfolding default_interfaces own_interfaces
not_started p c none nothing =
    ap (λ o. not (is_some o) && list_all (λ i. not (declares_start p i)) (default_interfaces p c)) none
    ∙ ap (λ is. list_all (λ i. not (declares_start p i)) (filter (λ i. list_any (λ m. is_default_method (method_at p m)) (class_at p i).methods) (first_mentions (flat_map (λ j. lineage_in p class_bound j) is)))) nothing

abbrev starts_nothing : Program → ℕ → Bool
starts_nothing p d = not (declares_start p d) && list_all (λ i. not (declares_start p i)) (default_interfaces p d)

below_object : (p : Program) (c : ℕ) → is_interface (class_at p c).flags ≡ false → (class_at p c).superclass ≡ Some 0 → (class_at p c).interfaces ≡ [] → (class_at p c).initialiser ≡ None
    → (class_at p 0).superclass ≡ None → (class_at p 0).interfaces ≡ [] → (class_at p 0).initialiser ≡ None → is_trivial p c ≡ true
unfolding is_trivial class_bound
below_object p c plain above nothing none top last_nothing last_none =
    ap (λ b. cond b (not (declares_start p c)) (list_all (starts_nothing p) (upwards p c))) plain
    ∙ (ap (list_all (starts_nothing p)) (two_up p 1198 c 0 above top) ∙ and_from _ _ (not_started p c none nothing) (and_from _ _ (not_started p 0 last_none last_nothing) refl))

object_starts : (get_or builtin_classes 0 no_class).initialiser ≡ None
unfolding builtin_classes builtin_defs
object_starts = refl

env_class : (is_interface (get_or builtin_classes 6 no_class).flags ≡ false) × ((get_or builtin_classes 6 no_class).superclass ≡ Some 0) × ((get_or builtin_classes 6 no_class).interfaces ≡ []) × ((get_or builtin_classes 6 no_class).initialiser ≡ None)
unfolding builtin_classes builtin_defs
env_class = (refl, refl, refl, refl)

print_method : ((get_or builtin_methods print_number no_method).class ≡ 6) × ((get_or builtin_methods print_number no_method).native ≡ Some native.EnvPrint) × ((get_or builtin_methods print_number no_method).descriptor ≡ codes "(I)V")
unfolding builtin_methods builtin_defs
print_method = (refl, refl, refl)

module _ (k : ℕ) where
  abbrev p : Program
  p = generated_program k

  abbrev tests : List TestEntry
  tests = map gen_test (range_with_len 1 k)

  own_trivial : is_trivial p 32 ≡ true
  own_trivial =
      let own = class_is gen_body k tests in
      let object = object_is gen_body k tests in
      below_object p 32 (ap (λ (c : ClassRec). is_interface c.flags) own) (ap (λ (c : ClassRec). c.superclass) own) (ap (λ (c : ClassRec). c.interfaces) own) (ap (λ (c : ClassRec). c.initialiser) own)
      (ap (λ (c : ClassRec). c.superclass) object ∙ object_above) (ap (λ (c : ClassRec). c.interfaces) object ∙ object_interfaces) (ap (λ (c : ClassRec). c.initialiser) object ∙ object_starts)

  env_trivial : is_trivial p 6 ≡ true
  env_trivial =
      let env = builtin_class p (holds_builtins gen_body k tests) 6 (omega arith) in
      let object = object_is gen_body k tests in
      below_object p 6 (ap (λ (c : ClassRec). is_interface c.flags) env ∙ env_class.0) (ap (λ (c : ClassRec). c.superclass) env ∙ env_class.1) (ap (λ (c : ClassRec). c.interfaces) env ∙ env_class.2) (ap (λ (c : ClassRec). c.initialiser) env ∙ env_class.3)
      (ap (λ (c : ClassRec). c.superclass) object ∙ object_above) (ap (λ (c : ClassRec). c.interfaces) object ∙ object_interfaces) (ap (λ (c : ClassRec). c.initialiser) object ∙ object_starts)

  prints : Prints p print_number 6
  prints =
      let print = builtin_method p (holds_builtins gen_body k tests) print_number (omega arith) in
      record { class = ap (λ (m : MethodRec). m.class) print ∙ print_method.0; trivial = env_trivial; native = ap (λ (m : MethodRec). m.native) print ∙ print_method.1; descriptor = ap (λ (m : MethodRec). m.descriptor) print ∙ print_method.2 }

  -- ---- a test's entry

  entry_is : (i : ℕ) → 1 ≤ i → i ≤ k → test_at p i ≡ gen_test i
  unfolding gen_program
  entry_is i low few = get_or-map-range_with_len gen_test 1 k (i - 1) i no_test (omega (arith, low, few)) (omega (arith, low))

  calls_on : (i : ℕ) → 1 ≤ i → i ≤ k → CallsOn p i (method_number i) 32 (field_number (group_of i))
  calls_on i low few =
      let method = method_is gen_body k tests i low few in
      let field = field_is gen_body k tests (group_of i) (omega (arith, low, few)) in
      record {
        method = ap (λ (t : TestEntry). t.method) (entry_is i low few);
        static = ap (λ (m : MethodRec). is_static m.flags) method;
        class = ap (λ (m : MethodRec). m.class) method;
        trivial = own_trivial;
        owner = ap (λ (x : FieldRec). x.class) field;
        type = ap (λ (x : FieldRec). x.descriptor) field;
      }

  body_is : (i : ℕ) → 1 ≤ i → i ≤ k → (method_at p (method_number i)).body ≡ Some (gen_body i)
  body_is i low few = ap (λ (m : MethodRec). m.body) (method_is gen_body k tests i low few)

  -- ---- one test

  -- The static of the group of test a is as before that test, unless the test sets it.
  abbrev IsReady : World → ℕ → Type 0
  IsReady w a = ((a - 1) % 4 ≡ 0 → ⊥) → at w (place.Static (field_number (group_of a))) ≡ value.Int (pos (value_before a))

  -- the run of a test that passes
  abbrev passed : Outcome → List Touch → World → Ran End
  passed o ts w = record { sound = true; value = finished Passed o.output; world = w; touches = ts; units = o.units }

  -- what a test gives, which leaves the next one ready
  record Gives (w : World) (a : ℕ) : Type 0 where
    pub world : World
    pub ran : run (tree p a (test_at p a).budget) w ≡ passed (outcome_of a) (touches_at a) world
    pub ready : IsReady world (a + 1)

  -- the run of a test under its budget
  budgeted : (w w' : World) (a : ℕ) (o : Outcome) (ts : List Touch) → 1 ≤ a → a ≤ k → run (whole p 1000001 (started p a)) w ≡ passed o ts w' → outcome_of a ≡ o → touches_at a ≡ ts
      → run (tree p a (test_at p a).budget) w ≡ passed (outcome_of a) (touches_at a) w'
  unfolding tree
  budgeted w w' a o ts low few e outcome touches =
      ap (λ (t : TestEntry). run (whole p (suc t.budget) (started p a)) w) (entry_is a low few) ∙ (e ∙ (ap (λ x. passed x ts w') (sym outcome) ∙ ap (λ xs. passed (outcome_of a) xs w') (sym touches)))

  early : (a : ℕ) → ((a - 1) % 4 ≡ 3 → ⊥) → value_before a ≡ a - (a - 1) % 4
  early a differ = ap (λ b. cond b (2 * a - 4) (a - (a - 1) % 4)) (ne_eqb ((a - 1) % 4) 3 differ)

  late : (a : ℕ) → (a - 1) % 4 ≡ 3 → value_before a ≡ 2 * a - 4
  late a same = ap (λ b. cond b (2 * a - 4) (a - (a - 1) % 4)) (eq-eqb ((a - 1) % 4) 3 same)

  -- the static that was put is that of the next test
  put_ready : (w : World) (a v : ℕ) → group_of (a + 1) ≡ group_of a → value_before (a + 1) ≡ v → IsReady (put w (place.Static (field_number (group_of a))) (value.Int (pos v))) (a + 1)
  put_ready w a v group same some =
      let l = place.Static (field_number (group_of a)) in
      let there : at (put w l (value.Int (pos v))) l ≡ value.Int (pos v) = at_put_same w l (value.Int (pos v)) refl in
      subst (λ g. at (put w l (value.Int (pos v))) (place.Static (field_number g)) ≡ value.Int (pos (value_before (a + 1)))) (sym group) (there ∙ ap (λ x. value.Int (pos x)) (sym same))

  first_gives : (w : World) (a : ℕ) → 1 ≤ a → a ≤ k → eqb ((a - 1) % 4) 0 ≡ true → Gives w a
  unfolding outcome_of touches_at
  first_gives w a low few is_first =
      let f = field_number (group_of a) in
      let l = place.Static f in
      let third = eqb ((a - 1) % 4) 2 in
      let e : (a - 1) % 4 ≡ 0 = eqb-true _ _ is_first in
      let body = body_is a low few ∙ ap (λ b. Some (cond b (setting_body f a) (cond third (adding_body f a) (printing_body f)))) is_first in
      let outcome : outcome_of a ≡ passed_with [] 6 = ap (λ b. cond b (passed_with [] 6) (cond third (passed_with [] 9) (passed_with (line_of (value_before a)) (6 + length (line_of (value_before a)))))) is_first in
      let touches : touches_at a ≡ touch_of true l ∷ [] = ap (λ b. cond b (touch_of true l ∷ []) (cond third (touch_of false l ∷ touch_of true l ∷ []) (touch_of false l ∷ []))) is_first in
      let w' = put w l (value.Int (pos a)) in
      record {
        world = w';
        ran = budgeted w w' a (passed_with [] 6) (touch_of true l ∷ []) low few (setting_run p a (method_number a) 32 f a 999996 w (calls_on a low few) body) outcome touches;
        ready = put_ready w a a (omega (arith, e, low)) (early (a + 1) (λ l. omega (arith, e, l, low)) ∙ omega (arith, e, low));
      }

  third_gives : (w : World) (a : ℕ) → 1 ≤ a → a ≤ k → k ≤ 1024 → IsReady w a → eqb ((a - 1) % 4) 0 ≡ false → eqb ((a - 1) % 4) 2 ≡ true → Gives w a
  unfolding outcome_of touches_at
  third_gives w a low few small ready not_first is_third =
      let f = field_number (group_of a) in
      let l = place.Static f in
      let third = eqb ((a - 1) % 4) 2 in
      let v = value_before a in
      let e : (a - 1) % 4 ≡ 2 = eqb-true _ _ is_third in
      let v_is : v ≡ a - 2 = early a (λ l. omega (arith, e, l)) ∙ omega (arith, e) in
      let body = body_is a low few ∙ (ap (λ b. Some (cond b (setting_body f a) (cond third (adding_body f a) (printing_body f)))) not_first ∙ ap (λ b. Some (cond b (adding_body f a) (printing_body f))) is_third) in
      let other = passed_with (line_of v) (6 + length (line_of v)) in
      let outcome : outcome_of a ≡ passed_with [] 9 = ap (λ b. cond b (passed_with [] 6) (cond third (passed_with [] 9) other)) not_first ∙ ap (λ b. cond b (passed_with [] 9) other) is_third in
      let ts : List Touch = touch_of false l ∷ touch_of true l ∷ [] in
      let touches : touches_at a ≡ ts = ap (λ b. cond b (touch_of true l ∷ []) (cond third ts (touch_of false l ∷ []))) not_first ∙ ap (λ b. cond b ts (touch_of false l ∷ [])) is_third in
      let w' = put w l (value.Int (pos (v + a))) in
      record {
        world = w';
        ran = budgeted w w' a (passed_with [] 9) ts low few (adding_run p a (method_number a) 32 f a v 999994 w (calls_on a low few) body (ready (λ z. omega (arith, e, z))) (omega (arith, v_is, few, small))) outcome touches;
        ready = put_ready w a (v + a) (omega (arith, e, low)) (late (a + 1) (omega (arith, e, low)) ∙ omega (arith, e, v_is, low));
      }

  line_short : (n : ℕ) → n < 10000 → length (line_of n) ≤ 5
  line_short n few = omega (arith, length-append (decimal n) (10 ∷ []), length-decimal-le 4 n (omega arith) (omega (arith, few)) (omega (arith, few)))

  value_small : (a : ℕ) → a ≤ 1024 → value_before a < 10000
  value_small a few = by_test (eqb ((a - 1) % 4) 3) (λ yes. omega (arith, few, late a (eqb-true _ _ yes))) (λ no. omega (arith, few, ap (λ b. cond b (2 * a - 4) (a - (a - 1) % 4)) no))

  other_gives : (w : World) (a : ℕ) → 1 ≤ a → a ≤ k → IsReady w a → eqb ((a - 1) % 4) 0 ≡ false → eqb ((a - 1) % 4) 2 ≡ false → Gives w a
  unfolding outcome_of touches_at
  other_gives w a low few ready not_first not_third =
      let f = field_number (group_of a) in
      let l = place.Static f in
      let third = eqb ((a - 1) % 4) 2 in
      let v = value_before a in
      let zero_no : (a - 1) % 4 ≡ 0 → ⊥ = λ e. both_ways (eqb ((a - 1) % 4) 0) not_first (eq-eqb ((a - 1) % 4) 0 e) in
      let two_no : (a - 1) % 4 ≡ 2 → ⊥ = λ e. both_ways third not_third (eq-eqb ((a - 1) % 4) 2 e) in
      let there = ready zero_no in
      let body = body_is a low few ∙ (ap (λ b. Some (cond b (setting_body f a) (cond third (adding_body f a) (printing_body f)))) not_first ∙ ap (λ b. Some (cond b (adding_body f a) (printing_body f))) not_third) in
      let counted : ℕ = 1 + (1 + (1 + (1 + (length (line_of v) + 2)))) in
      let units : 6 + length (line_of v) ≡ counted = omega arith in
      let other = passed_with (line_of v) (6 + length (line_of v)) in
      let outcome : outcome_of a ≡ passed_with (line_of v) counted =
      ap (λ b. cond b (passed_with [] 6) (cond third (passed_with [] 9) other)) not_first ∙ (ap (λ b. cond b (passed_with [] 9) other) not_third ∙ ap (passed_with (line_of v)) units) in
      let ts : List Touch = touch_of false l ∷ [] in
      let touches : touches_at a ≡ ts =
      ap (λ b. cond b (touch_of true l ∷ []) (cond third (touch_of false l ∷ touch_of true l ∷ []) ts)) not_first ∙ ap (λ b. cond b (touch_of false l ∷ touch_of true l ∷ []) ts) not_third in
      record {
        world = w;
        ran = budgeted w w a (passed_with (line_of v) counted) ts low few (printing_run p a (method_number a) 32 f 6 v 999996 w (calls_on a low few) body prints there) outcome touches;
        ready = λ some.
            let second : (a - 1) % 4 ≡ 1 = omega (arith, zero_no, two_no, some, low) in
            let group : group_of (a + 1) ≡ group_of a = omega (arith, second, low) in
            let same : value_before (a + 1) ≡ v = early (a + 1) (λ l. omega (arith, second, l, low)) ∙ (omega (arith, second, low) ∙ sym (early a (λ l. omega (arith, second, l)))) in
            subst (λ g. at w (place.Static (field_number g)) ≡ value.Int (pos (value_before (a + 1)))) (sym group) (there ∙ ap (λ x. value.Int (pos x)) (sym same));
      }

  gives : (w : World) (a : ℕ) → 1 ≤ a → a ≤ k → k ≤ 1024 → IsReady w a → Gives w a
  gives w a low few small ready = by_test (eqb ((a - 1) % 4) 0) (λ yes. first_gives w a low few yes) (λ no. by_test (eqb ((a - 1) % 4) 2) (λ yes. third_gives w a low few small ready no yes) (λ other. other_gives w a low few ready no other))

  units_few : (a : ℕ) → a ≤ 1024 → (outcome_of a).units ≤ 11
  unfolding outcome_of
  units_few a few = by (eqb ((a - 1) % 4) 0) (eqb ((a - 1) % 4) 2) (value_before a) (line_short (value_before a) (value_small a few))
    where
      by : (one two : Bool) (v : ℕ) → length (line_of v) ≤ 5 → (cond one (passed_with [] 6) (cond two (passed_with [] 9) (passed_with (line_of v) (6 + length (line_of v))))).units ≤ 11
      by true two v short = omega arith
      by false true v short = omega arith
      by false false v short = omega (arith, short)

  passed_is : (a : ℕ) → passed_with (outcome_of a).output (outcome_of a).units ≡ outcome_of a
  unfolding outcome_of
  passed_is a = by (eqb ((a - 1) % 4) 0) (eqb ((a - 1) % 4) 2) (passed_with [] 6) (passed_with [] 9) (passed_with (line_of (value_before a)) (6 + length (line_of (value_before a)))) refl refl refl
    where
      by : (one two : Bool) (x y z : Outcome) → passed_with x.output x.units ≡ x → passed_with y.output y.units ≡ y → passed_with z.output z.units ≡ z
          → passed_with (cond one x (cond two y z)).output (cond one x (cond two y z)).units ≡ cond one x (cond two y z)
      by true two x y z e f g = e
      by false true x y z e f g = f
      by false false x y z e f g = g

  test_is : (w : World) (a : ℕ) → 1 ≤ a → a ≤ k → k ≤ 1024 → (o : Gives w a) → one_test p w a (test_at p a).budget ≡ Some (record { outcome = outcome_of a; world = o.world; touches = touches_at a })
  unfolding one_test
  test_is w a low few small o =
      let b = (test_at p a).budget in
      let within : nat_le (outcome_of a).units b ≡ true = le-leb _ _ (omega (arith, units_few a (omega (arith, few, small)), ap (λ (t : TestEntry). t.budget) (entry_is a low few))) in
      ap (λ (x : Ran End). given_at b x.sound x.value x.world x.touches x.units) o.ran
      ∙ (ap (λ t. cond t (Some (record { outcome = passed_with (outcome_of a).output (outcome_of a).units; world = o.world; touches = touches_at a })) None) within
      ∙ ap (λ x. Some (record { outcome = x; world = o.world; touches = touches_at a })) (passed_is a))

  -- ---- the suite

  -- what n tests give, from test a on
  record GivesAll (w : World) (a n : ℕ) : Type 0 where
    pub list : List Given
    pub is : runs_on p w (range_with_len a n) ≡ Some list
    pub outcomes : map (λ (x : Given). x.outcome) list ≡ map outcome_of (range_with_len a n)
    pub few : units_of list ≤ 11 * n

  gives_all : (w : World) (a n : ℕ) → 1 ≤ a → a + n ≤ k + 1 → k ≤ 1024 → IsReady w a → GivesAll w a n
  gives_all w a zero low few small ready = record { list = []; is = refl; outcomes = refl; few = omega arith }
  gives_all w a (suc n) low few small ready =
      let one = gives w a low (omega (arith, few)) small ready in
      let x : Given = record { outcome = outcome_of a; world = one.world; touches = touches_at a } in
      let more = gives_all one.world (a + 1) n (omega arith) (omega (arith, few)) small one.ready in
      record {
        list = x ∷ more.list;
        is = ap (λ o. elim o [ None ↦ None | Some y ↦ with_first y (runs_on p y.world (range_with_len (a + 1) n)) ]) (test_is w a low (omega (arith, few)) small one) ∙ ap (with_first x) more.is;
        outcomes = ap (λ os. outcome_of a ∷ os) more.outcomes;
        few = omega (arith, units_few a (omega (arith, few, small)), more.few);
      }

  whole_run : k ≤ 1024 → GivesAll (opening p) 1 k
  whole_run small = gives_all (opening p) 1 k (omega arith) (omega arith) small (λ some. absurd (some refl))

  count_tests : length p.tests ≡ k
  unfolding gen_program
  count_tests = length-map-range_with_len gen_test 1 k

  runs_are : (small : k ≤ 1024) → runs p (all_tests p) ≡ Some (whole_run small).list
  unfolding runs
  runs_are small = ap (λ n. runs_on p (opening p) (range_with_len 1 n)) count_tests ∙ (whole_run small).is

  outcome_at : (xs : List Given) (j : ℕ) → outcome_in (slice_get xs j) ≡ slice_get (map (λ (x : Given). x.outcome) xs) j
  outcome_at [] j = refl
  outcome_at (x ∷ xs) zero = refl
  outcome_at (x ∷ xs) (suc j) = outcome_at xs j

  named_at : (a n j : ℕ) → j < n → slice_get (map outcome_of (range_with_len a n)) j ≡ Some (outcome_of (a + j))
  named_at a zero j few = absurd (omega (arith, few))
  named_at a (suc n) zero few = let e : a ≡ a + 0 = omega arith in ap (λ b. Some (outcome_of b)) e
  named_at a (suc n) (suc j) few = let e : a + 1 + j ≡ a + suc j = omega arith in named_at (a + 1) n j (omega (arith, few)) ∙ ap (λ b. Some (outcome_of b)) e

  detected : k ≤ 1024 → is_detected p ≡ true
  unfolding is_detected suite_limit
  detected small = ap within_limit (runs_are small) ∙ le-leb _ _ (omega (arith, (whole_run small).few, small))

  test_given : k ≤ 1024 → (i : ℕ) → 1 ≤ i → i ≤ k → seq p i ≡ Some (outcome_of i)
  unfolding seq
  test_given small i low few =
      let all = whole_run small in
      let place : 1 + (i - 1) ≡ i = omega (arith, low) in
      ap (λ o. outcome_in (given_by_test o i)) (runs_are small)
      ∙ (outcome_at all.list (i - 1) ∙ (ap (λ os. slice_get os (i - 1)) all.outcomes ∙ (named_at 1 k (i - 1) (omega (arith, low, few)) ∙ ap (λ b. Some (outcome_of b)) place)))

  -- ---- the suite's own order

  -- before each test its static is as it should be
  ready_at : k ≤ 1024 → (t : ℕ) → suc t ≤ k → IsReady (after_history p (down (suc t))) (suc t)
  ready_at small zero few = λ some. absurd (some refl)
  ready_at small (suc t) few =
      let one = gives (after_history p (down (suc t))) (suc t) (omega arith) (omega (arith, few)) small (ready_at small t (omega (arith, few))) in
      let next : suc t + 1 ≡ suc (suc t) = omega arith in
      let after : one.world ≡ after_history p (down (suc (suc t))) = sym (ap (λ (r : Ran End). r.world) one.ran) in
      subst (λ n. IsReady (after_history p (down (suc (suc t)))) n) next (subst (λ w. IsReady w (suc t + 1)) after one.ready)

  touches_are : k ≤ 1024 → (v : ℕ) → 1 ≤ v → v ≤ k → touches_of p v ≡ touches_at v
  touches_are small zero low few = absurd (omega (arith, low))
  touches_are small (suc t) low few = ap (λ (r : Ran End). r.touches) (gives (after_history p (down (suc t))) (suc t) low few small (ready_at small t few)).ran

  units_are : k ≤ 1024 → (a n : ℕ) → 1 ≤ a → a + n ≤ k + 1 → map (λ t. units_in (seq p t)) (range_with_len a n) ≡ map (λ i. (outcome_of i).units) (range_with_len a n)
  units_are small a zero low few = refl
  units_are small a (suc n) low few =
      let one = ap units_in (test_given small a low (omega (arith, few))) in
      let more = units_are small (a + 1) n (omega arith) (omega (arith, few)) in
      λ j. one j ∷ more j

pub run_law : RunLaw
run_law k small = record { detected = detected k small; tests = test_given k small }

pub record_law : RecordLaw
record_law k sums r small own =
    let p = generated_program k in
    let each = touches_are k small in
    let edges = own.edges in
    record {
      units = own.units ∙ (ap (λ n. map (λ t. units_in (seq p t)) (range_with_len 1 n)) (count_tests k) ∙ units_are k small 1 k (omega arith) (omega arith));
      raw = ap (count_by is_raw) edges ∙ raw_count (touches_of p) (owner p) p k each (count_tests k);
      waw = ap (count_by is_waw) edges ∙ waw_count (touches_of p) (owner p) p k each (count_tests k);
      war = ap (count_by is_war) edges ∙ war_count (touches_of p) (owner p) p k each (count_tests k);
    }

pub chain_law : ChainLaw
chain_law k set C small all listed =
    let p = generated_program k in
    count_chains (touches_of p) (owner p) p k (touches_are k small) (count_tests k) (λ t. Member t set) C all listed
