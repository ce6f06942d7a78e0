-- All tests of a suite, one after the other in both runs: the law of quiet initialisers.
use Rattle.std.proofs.Common.{◌≡◌, ℕ, zero, suc, ◌+◌, ◌-◌, ◌<◌, ◌≤◌, List, [], ◌∷◌, length, get_or, slice_get, true, Option, Some, None, refl, sym, ◌∙◌, ap, subst, arith}
use Rattle.std.specs.List.{range_with_len}
use Rattle.std.proofs.lemmas.Bool.{leb-true, le-leb}
use Rattle.jvm_model.specs.declared.{outcome.Outcome.Outcome, program.Program.Program, program.TestEntry.TestEntry}
use Rattle.jvm_model.specs.{World.World, Access.Ran, Access.run, Linked.Linked}
use Rattle.jvm_model.specs.{Reached.Reaches, Reached.begins, Reached.Overflows, State.State, State.no_test, State.started, State.test_at}
use Rattle.jvm_model.specs.Suite.{End, opening, tree, Given, given_at, one_test, runs_on, runs, all_tests, outcome_in, given_by_test, seq, units_of, suite_limit, within_limit, is_detected, with_first}
use Rattle.jvm_model.proofs.Runs.{runs_after, split}
use Rattle.order_law.specs.{Conflicts.down, Histories.after_history, Numbers.same_numbers, Outcomes.PairedEnd}
use Rattle.order_law.specs.Pairing.{PairedList, no_more, one_more, PairedOption, both_none, both_some}
use Rattle.order_law.proofs.FrameLaw.{given_of, RanTo, ran_to, given_then, second_end}
use Rattle.order_law.proofs.{Lists.get-list, Same.verdict_is, States.both_first, States.nothing-paired, Steps.States, Histories.same_test}
use Rattle.type_frames.specs.{Typing.IsTyped, TypedState.TypedWorld}
use Rattle.check_sound.proofs.{AllGroups.groups, WholeTest.opening_typed, WholeTest.test_typed}
use Rattle.quiet_init.specs.Quiet.{quiet}
use Rattle.quiet_init.proofs.{Beside.Beside, Hushes.Sound, Sounds.sound, Walk.left_law}
use Rattle.quiet_law.specs.QuietLaw.{NeverOverflows, IsNoDearer, AllNoDearer, QuietLaw}
use Rattle.quiet_law.proofs.{Together.Equal, Together.beside_at_start, Clear.Locked, Plain.twins, Whole.IsFinished, Whole.whole_out}

-- the tests are the same
pub tests_kept : (p : Program) → (quiet p).tests ≡ p.tests
unfolding quiet
tests_kept p = refl

started_alike : (p : Program) (lk : Linked p) (t : ℕ) → States (twins p lk) (started p t) (started (quiet p) t)
unfolding quiet
started_alike p lk t = record { test = same_test (test_at p t); entries = nothing-paired same_numbers (λ a b. a ≡ b); stage = both_first; raised = both_none; own = refl }

-- what a test gives without quiet initialisers, where its run comes out alike
record GivenToo (p : Program) (b : ℕ) (q : Ran End) (x : Given) : Type 0 where
  given : Given
  is : given_at b q.sound q.value q.world q.touches q.units ≡ Some given
  no_dearer : IsNoDearer x.outcome given.outcome
  beside : Beside p Equal x.world given.world

given_too : (p : Program) (b : ℕ) (r q : Ran End) (x : Given) → RanTo b r x → Locked p (PairedEnd same_numbers) r q → GivenToo p b q x
given_too p b r q x a l =
    let e = second_end same_numbers a.verdict a.output l.value a.value in
    let first = a.is in
    let u = ap (λ (z : Given). z.outcome.units) a.is in
    let n = l.units in
    let k : r.units ≤ b = leb-true r.units b a.within in
    record {
      given = given_of e.verdict e.output q;
      is = given_then b q e.verdict e.output l.sound e.is (le-leb q.units b (omega arith));
      no_dearer = record {
        verdict = sym (verdict_is e.alike) ∙ ap (λ (z : Given). z.outcome.verdict) first;
        output = sym e.same ∙ ap (λ (z : Given). z.outcome.output) first;
        units = omega arith;
      };
      beside = subst (λ (z : World). Beside p Equal z q.world) (ap (λ (z : Given). z.world) first) l.world;
    }

-- what two tests gave
abbrev NoDearer : Given → Given → Type 0
NoDearer x y = IsNoDearer x.outcome y.outcome

fewer_units : {xs ys : List Given} → PairedList NoDearer xs ys → units_of ys ≤ units_of xs
fewer_units no_more = omega arith
fewer_units (one_more h hs) = let a = h.units in let b = fewer_units hs in omega arith

-- the other list of what tests gave
record ListToo (p : Program) (v : World) (l : List ℕ) (xs : List Given) : Type 0 where
  given : List Given
  are : runs_on (quiet p) v l ≡ Some given
  no_dearer : PairedList NoDearer xs given

module _ (p : Program) (ty : IsTyped p) (sd : Sound p) where
  -- one test
  test_out : (t : ℕ) → 0 < t → t ≤ length p.tests → (w v : World) → TypedWorld p w → Beside p Equal w v → ((s : State) (x : World) → Reaches p t w s x → Overflows p s x → ⊥) → (b : ℕ) (x : Given) → RanTo b (run (tree p t b) w) x →
      GivenToo p b (run (tree (quiet p) t b) v) x
  unfolding tree
  test_out t low high w v tw bs free b x a =
      given_too p b _ _ x a (whole_out p ty sd t low high w tw free (suc b) (suc b) (suc b) (omega arith) (omega arith) (started p t) (started (quiet p) t) w v (started_alike p sd.linked t) bs begins a.sound (subst IsFinished (sym a.value) tt))

  lists_out : NeverOverflows p → (n t : ℕ) → 0 < t → t + n ≡ suc (length p.tests) → (w v : World) → TypedWorld p w → Beside p Equal w v → w ≡ after_history p (down t) → (xs : List Given) → runs_on p w (range_with_len t n) ≡ Some xs → ListToo p v (range_with_len t n) xs
  unfolding one_test
  lists_out never zero t low len w v tw bs here xs e = let z : xs ≡ [] = cc in record { given = []; are = refl; no_dearer = subst (λ (ys : List Given). PairedList NoDearer ys []) (sym z) no_more }
  lists_out never (suc n) zero low len w v tw bs here xs e = absurd (omega arith)
  lists_out never (suc n) (suc t) low len w v tw bs here xs e =
      let k = suc t in
      let b = (test_at p k).budget in
      let s = split p w k _ xs e in
      let r = run (tree p k b) w in
      let a = ran_to b r.sound r.value r.world r.touches r.units s.first s.first_is in
      let free = (λ (u : State) (x : World) (q : Reaches p k w u x) (o : Overflows p u x). never k u x (omega arith, omega arith) (subst (λ (z : World). Reaches p k z u x) here q) o) in
      let g = test_out k low (omega arith) w v tw bs free b s.first a in
      let next : k + 1 ≡ suc k = omega arith in
      let after : r.world ≡ s.first.world = ap (λ (z : Given). z.world) a.is in
      let rest = lists_out never n (suc k) (omega arith) (omega arith) s.first.world g.given.world (subst (λ (z : World). TypedWorld p z) after (test_typed p ty (groups p ty) k b w tw low (omega arith)).1) g.beside
      (sym after ∙ ap (λ (z : World). (run (tree p k b) z).world) here) s.others (ap (λ (z : ℕ). runs_on p s.first.world (range_with_len z n)) (sym next) ∙ s.others_are) in
      let same : (test_at (quiet p) k).budget ≡ b = ap (λ (z : List TestEntry). (get_or z (k - 1) no_test).budget) (tests_kept p) in
      record {
        given = g.given ∷ rest.given;
        are = ap (λ (z : ℕ). runs_after (quiet p) (range_with_len (k + 1) n) (one_test (quiet p) v k z)) same
            ∙ ap (λ (z : Option Given). runs_after (quiet p) (range_with_len (k + 1) n) z) g.is
            ∙ ap (λ (z : ℕ). with_first g.given (runs_on (quiet p) g.given.world (range_with_len z n))) next
            ∙ ap (λ (z : Option (List Given)). with_first g.given z) rest.are;
        no_dearer = subst (λ (z : List Given). PairedList NoDearer z (g.given ∷ rest.given)) (sym s.whole) (one_more g.no_dearer rest.no_dearer);
      }

  -- the tests of the one list by the other
  seq_too : (xs ys : List Given) → PairedList NoDearer xs ys → (t : ℕ) (x : Outcome) → outcome_in (slice_get xs (t - 1)) ≡ Some x → (y : Outcome) × (outcome_in (slice_get ys (t - 1)) ≡ Some y) × IsNoDearer x y
  seq_too xs ys h t x e = by (get-list NoDearer (t - 1) h) e
    where
      by : {u v : Option Given} → PairedOption NoDearer u v → outcome_in u ≡ Some x → (y : Outcome) × (outcome_in v ≡ Some y) × IsNoDearer x y
      by both_none e = absurd (cc)
      by (both_some {x = u} {y = v} r) e = let z : u.outcome ≡ x = cc in (v.outcome, refl, subst (λ (k : Outcome). IsNoDearer k v.outcome) z r)

  tests_out : NeverOverflows p → (o : Option (List Given)) → runs p (all_tests p) ≡ o → within_limit o ≡ true → AllNoDearer p
  unfolding is_detected runs seq
  tests_out never None e d = absurd (cc)
  tests_out never (Some xs) e d =
      let r = lists_out never (length p.tests) 1 (omega arith) (omega arith) (opening p) (opening (quiet p)) (opening_typed p ty) (beside_at_start p sd) refl xs e in
      let all : runs (quiet p) (all_tests (quiet p)) ≡ Some r.given = ap (λ (z : List TestEntry). runs (quiet p) (range_with_len 1 (length z))) (tests_kept p) ∙ r.are in
      let u : units_of xs ≤ suite_limit = leb-true (units_of xs) suite_limit d in
      let n = fewer_units r.no_dearer in
      record {
        detected = ap within_limit all ∙ le-leb (units_of r.given) suite_limit (omega arith);
        tests = λ t x q.
            let f = seq_too xs r.given r.no_dearer t x (sym (ap (λ (z : Option (List Given)). outcome_in (given_by_test z t)) e) ∙ q) in
            (f.0, ap (λ (z : Option (List Given)). outcome_in (given_by_test z t)) all ∙ f.1, f.2);
      }

pub quiet_law : QuietLaw
unfolding is_detected
quiet_law p ty d never = tests_out p ty (sound p ty.linked (λ c m b q i h. (left_law p c ty q).rows m b i h)) never (runs p (all_tests p)) refl d
