-- Tests of chains are tests of the program, and what stops a plan.
use Rattle.std.proofs.Common.{◌≡◌, ℕ, zero, suc, ◌+◌, ◌<◌, ◌≤◌, List, [], ◌∷◌, ◌++◌, length, get_or, reverse, All, Bool, true, false, cond, nat_eq, Option, Some, None, is_some, is_none, refl, sym, ◌∙◌, ap, subst, inl, inr, arith, length-append}
use Rattle.std.proofs.lemmas.{Bool.eqb-true, List.get_or_read, List.Sums.sum_by-cons}
use Rattle.jvm_model.specs.{declared.program.Program.Program, declared.outcome.Outcome.Outcome, State.test_at, World.World}
use Rattle.jvm_model.specs.Suite.{Given, opening, world_after, runs, last_in, outcome_in, last_outcome, first_over, first_over_on}
use Rattle.jvm_model.proofs.FirstOver.{first_over_none}
use Rattle.order_law.specs.{Conflicts.Member, Histories.IsTestNumber, RecordForm.are_chains, RecordForm.joined}
use Rattle.order_law.specs.Plan as law
use Rattle.order_law.proofs.Members.{reversed_member}
use Rattle.order_law.proofs.Posts.{member_mid, posted_where, reversed, law_of_histories, forms_apart}
use Rattle.test_run.specs.{declared.run_fault.RunFault.RunFault, Lists.IsListRefused, Running.IsTest, Running.IsRefused, Running.Stands}
use Rattle.test_run.specs.declared.run_fault.RunFault.TheVariants as run
use Rattle.run_core.specs.{Refusal.HasOpen, Run.most_events}
use Rattle.schedule_plan.proofs.{Formed.joined_where, Formed.distinct_joined, Formed.filled_from, Totals.few, Totals.few_chains}
use Rattle.worker_pool.specs.{Plans.AreTests, Plans.HaveTests, Plans.GivesNone, Plans.IsStop, Faults.IsRunFault}

pub member_at : (l : List ℕ) (k d : ℕ) → k < length l → Member (get_or l k d) l
member_at [] k d h = absurd (omega arith)
member_at (y ∷ l) zero d h = inl refl
member_at (y ∷ l) (suc k) d h = inr (member_at l k d (omega arith))

pub all_tests : (p : Program) (l : List ℕ) → AreTests p l → All (IsTest p) l
all_tests p l f k d h = f (get_or l k d) (member_at l k d h)

-- what an index reads of chains
pub chain_in : (p : Program) (C : List (List ℕ)) (k : ℕ) (l : List ℕ) → HaveTests p C → k < length C → l ≡ get_or C k l → AreTests p l
chain_in p C k l f h e = subst (λ (z : List ℕ). AreTests p z) (sym (get_or_read C k l h e [])) (f k)

-- a claim of each chain and a post of each of their tests
most_joined : (C : List (List ℕ)) → most_events C ≡ length (joined C) + length C
most_joined [] = refl
most_joined (c ∷ C) =
    let s = sum_by-cons (λ (l : List ℕ). length l + 1) c C in
    let e = length-append c (joined C) in
    let r = most_joined C in
    omega arith

-- a program has few tests, and so a history of chains of them has few events
pub few_events : (p : Program) (C : List (List ℕ)) → length p.tests ≤ 1024 → are_chains C ≡ true → HaveTests p C → most_events C ≤ 2048
few_events p C h form have =
    let apart = forms_apart C form in
    let there : (i t : ℕ) → Member t (law.chain_at C i) → (0 < t) × (t ≤ 1024) = λ i t m. (let x = have i t m in let y : t ≤ length p.tests = x.1 in (x.0, omega arith)) in
    let tests = few (joined C) 1024 (distinct_joined C apart) (λ t m. let j = joined_where C t m in there j.0 t j.1) in
    let chains = few_chains C 1024 apart (filled_from C form) there in
    let all = most_joined C in
    omega arith

pub few_of_events : (C : List (List ℕ)) → length C ≤ most_events C
few_of_events C = let all = most_joined C in omega arith

-- what a worker posted, and its next test
pub posted_tests : (p : Program) (C : List (List ℕ)) (n : ℕ) (es : List law.Event) (w : ℕ) → law.Legal p C n es → HaveTests p C → AreTests p (reverse (law.posts es w))
posted_tests p C n es w l have t m = let j = posted_where p C n es w t l (reversed_member (law.posts es w) t m) in have j.0 t j.2

pub open_test : (p : Program) (C : List (List ℕ)) (es : List law.Event) (w i t : ℕ) → HaveTests p C → HasOpen C es w i t → IsTestNumber p t
open_test p C es w i t have x = have i t (rw x.next.split (member_mid x.next.front t x.next.rest))

pub stops : (p : Program) (C : List (List ℕ)) (n : ℕ) (es : List law.Event) (w i t : ℕ) → are_chains C ≡ true → law.Legal p C n es → HasOpen C es w i t
    → GivesNone p (reverse (law.posts es w)) t → IsStop p C n w t (reverse (law.posts es w))
stops p C n es w i t form l x none = record {
  events = es;
  legal = l;
  posted = refl;
  chain = i;
  next = x;
  chains = (law_of_histories p C n es (forms_apart C form) l).next w t i x.earlier x.claimed x.next;
  none = none;
}

-- a refusal of a test after a list
pub run_fault : {M : Type 0} (world : M → World) (p : Program) (l : List ℕ) (t : ℕ) (old : M) (e : RunFault) → Stands world p l old
    → IsRefused p (world old) t (test_at p t).budget e → IsRunFault p l t e
run_fault world p l t old (run.OverBudget u) s r = record { world = world old; after = s.after; none = r.1 }
run_fault world p l t old run.NoMemory s r = tt

none_from : (o : Option ℕ) → is_some o ≡ false → o ≡ None
none_from None e = refl
none_from (Some t) e = cc

-- a list whose last test has an outcome has no test that gives nothing
none_over : (p : Program) (l : List ℕ) (o : Outcome) → last_outcome p l ≡ Some o → first_over p l ≡ None
unfolding last_outcome
none_over p l o h = by (runs p l) refl h
  where
    by : (r : Option (List Given)) → runs p l ≡ r → outcome_in (last_in r) ≡ Some o → first_over p l ≡ None
    by None e f = cc
    by (Some gs) e f = none_from (first_over p l) (sym (first_over_none p l) ∙ ap (λ (r : Option (List Given)). is_none r) e)

-- what a worker posted gave something
pub posts_give : (p : Program) (C : List (List ℕ)) (n : ℕ) (es : List law.Event) (w : ℕ) → law.Legal p C n es → first_over p (reverse (law.posts es w)) ≡ None
unfolding first_over
posts_give p C n [] w l = refl
posts_give p C n (law.claim v c ∷ es) w l = posts_give p C n es w l.1
posts_give p C n (law.post v ls t o ∷ es) w l = by (nat_eq v w) refl (posts_give p C n es w l.1)
  where
    by : (b : Bool) → nat_eq v w ≡ b → first_over p (reverse (law.posts es w)) ≡ None → first_over p (reverse (cond b (t ∷ law.posts es w) (law.posts es w))) ≡ None
    by true e before =
        let m = l.0 in
        let same : ls ≡ reverse (law.posts es w) = m.4 ∙ ap (λ (u : ℕ). reverse (law.posts es u)) (eqb-true v w e) in
        let list : reverse (t ∷ law.posts es w) ≡ ls ++ (t ∷ []) = reversed t (law.posts es w) ∙ ap (λ (z : List ℕ). z ++ (t ∷ [])) (sym same) in
        ap (first_over p) list ∙ none_over p (ls ++ (t ∷ [])) o m.5
    by false e before = before

-- so a machine that ran nothing runs such a list again
pub run_again_fault : {M : Type 0} (world : M → World) (p : Program) (l k : List ℕ) (t : ℕ) (old : M) (e : RunFault) → k ≡ [] → Stands world p k old
    → first_over p l ≡ None → IsListRefused p (world old) l e → IsRunFault p l t e
unfolding runs first_over
run_again_fault world p l k t old (run.OverBudget u) fresh s none r =
    let new = subst (λ (z : List ℕ). Stands world p z old) fresh s in
    let start : [] ≡ new.after.given = cc in
    let opened : world old ≡ opening p = new.after.left ∙ ap (world_after (opening p)) (sym start) in
    let over : first_over_on p (opening p) l ≡ Some u = subst (λ (w : World). first_over_on p w l ≡ Some u) opened r in
    cc
run_again_fault world p l k t old run.NoMemory fresh s none r = tt
