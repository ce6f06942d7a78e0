-- What a memory with tags finds after a run of the whole suite is the program's own record.
use Rattle.std.proofs.Common.{◌≡◌, ℕ, ◌+◌, List, [], ◌∷◌, map, length, slice_get, sum, Some, None, refl, sym, ◌∙◌, ap, subst, arith}
use Rattle.std.proofs.{lemmas.List.Recursion.is_sum_by, lemmas.List.Sums.sum-map}
use Rattle.std.proofs.lemmas.Option.{slice_get_within}
use Rattle.jvm_model.specs.declared.outcome.Outcome.{Outcome}
use Rattle.jvm_model.specs.declared.values.Touch.{Touch}
use Rattle.jvm_model.specs.declared.program.Program.{Program}
use Rattle.jvm_model.specs.Suite.{Given, runs, runs_on, all_tests, suite_fault, opening, units_of, world_after}
use Rattle.jvm_model.specs.World.{World}
use Rattle.jvm_model.proofs.Detection.{detected_from}
use Rattle.type_frames.specs.Typing.{IsTyped}
use Rattle.order_law.specs.declared.edges.Edge.{Edge}
use Rattle.order_law.specs.declared.records.{Reach.Reach, Shown.Shown}
use Rattle.order_law.specs.{Histories.Touches, Histories.touches_of, Pairing.PairedList, Reach.IsReachIn, Reach.IsReachOf, Walk.IsShownIn, Walk.IsShownOf}
use Rattle.order_law.specs.OwnRecord.{edges_in, edges_of, owner}
use Rattle.vm_mem.specs.Trace.{Trace, empty_trace}
use Rattle.test_run.specs.Lists.{RanList}
use Rattle.access_tags.specs.Ran.{trace_to, touched_by, owner_by, HaveWalks, kinds_in}
use Rattle.detect_run.specs.Detection.{IsOwnRun}
use Rattle.detect_run.proofs.InOrder.{world_at, gave_all, trace_all, world_last, units_listed}
use Rattle.detect_run.proofs.Kept.{has_run}
use Rattle.detect_run.proofs.OwnRun.{owners, have_walks, reach_own}

module _ (p : Program) (ty : IsTyped p) {M : Type 0} (world : M → World) (follows : M → Trace → List Touch → Type 0) (m : M) (us : List ℕ) (run : IsOwnRun world follows p m us) where
  abbrev T : Touches
  T = touches_of p

  abbrev xs : List Given
  xs = (has_run p run.detected).given

  own_by : (o : ℕ) → owner_by p T o ≡ owner p o
  own_by o = owners p ty xs (has_run p run.detected).ran o

  by_owner : {A : Type 0} (f : (ℕ → ℕ × ℕ) → A) → f (owner_by p T) ≡ f (owner p)
  by_owner f = ap f (λ i o. own_by o i)

  -- found for a program that is this one
  module _ {q : Program} (same : q ≡ p) where
    abbrev Told : Touches → Type 0
    Told S = follows m (trace_to S (length q.tests)) (touched_by S (length q.tests))

    told_so : Told T
    told_so = subst (λ (z : Program). follows m (trace_to T (length z.tests)) (touched_by T (length z.tests))) (sym same) run.told

    pub edges_found : (es : List Edge) → ((S : Touches) → Told S → es ≡ edges_in q S (owner_by q S)) → es ≡ edges_of p
    edges_found es f = f T told_so ∙ ap (λ (z : Program). edges_in z T (owner_by z T)) same ∙ by_owner (λ (by : ℕ → ℕ × ℕ). edges_in p T by)

    pub shown_found : (es : List Edge) (ss : List Shown) → ((S : Touches) → Told S → HaveWalks q S → PairedList (IsShownIn q S (owner_by q S)) es ss) → PairedList (IsShownOf p) es ss
    shown_found es ss f =
        let walks = have_walks p ty xs (has_run p run.detected).ran in
        let found = f T told_so (subst (λ (z : Program). HaveWalks z T) (sym same) walks) in
        subst (λ (by : ℕ → ℕ × ℕ). PairedList (IsShownIn p T by) es ss) (λ i o. own_by o i) (subst (λ (z : Program). PairedList (IsShownIn z T (owner_by z T)) es ss) same found)

    pub reach_each : (rs : List Reach) → length rs ≡ length q.tests → length rs ≡ length p.tests
    reach_each rs n = n ∙ ap (λ (z : Program). length z.tests) same

    pub reach_found : (rs : List Reach) → length rs ≡ length q.tests →
        ((S : Touches) → Told S → (i : ℕ) (r : Reach) → slice_get rs i ≡ Some r → IsReachIn q S (kinds_in (world m)) (i + 1) r) →
        (i : ℕ) (r : Reach) → slice_get rs i ≡ Some r → IsReachOf p (i + 1) r
    reach_found rs n f i r e =
        let h = slice_get_within rs i r e in
        let each = reach_each rs n in
        reach_own p ty xs (has_run p run.detected).ran (world m) run.left (i + 1) r (omega arith, omega arith) (subst (λ (z : Program). IsReachIn z T (kinds_in (world m)) (i + 1) r) same (f T told_so i r e))

map_twice : (xs : List Given) → map (λ (o : Outcome). o.units) (map (λ (x : Given). x.outcome) xs) ≡ map (λ (x : Given). x.outcome.units) xs
map_twice [] = refl
map_twice (x ∷ xs) = ap (λ (us : List ℕ). x.outcome.units ∷ us) (map_twice xs)

sum_listed : (xs : List Given) → sum (map (λ (x : Given). x.outcome.units) xs) ≡ units_of xs
sum_listed xs = sum-map (λ (x : Given). x.outcome.units) xs ∙ sym (is_sum_by units_of (λ (x : Given). x.outcome.units) refl (λ x ys. refl) xs)

-- the suite ran on a memory, and so on one that is the same
pub own_run_lent : {M : Type 0} (world : M → World) (follows : M → Trace → List Touch → Type 0) (p : Program) (us : List ℕ) (m n : M) → n ≡ m → IsOwnRun world follows p m us → IsOwnRun world follows p n us
own_run_lent {M} world follows p us m n e r = subst (λ (x : M). IsOwnRun world follows p x us) (sym e) r

-- the suite ran on a memory that followed nothing
module _ (p : Program) {M : Type 0} (world : M → World) (follows : M → Trace → List Touch → Type 0) (old new : M) (os : List Outcome) (us : List ℕ) (begun now : ℕ) (r : RanList world follows p old new (all_tests p) os begun now) (e : us ≡ map (λ (o : Outcome). o.units) os) where
  units_are : us ≡ map (λ (x : Given). x.outcome.units) r.given
  units_are = e ∙ ap (map (λ (o : Outcome). o.units)) r.outcomes ∙ map_twice r.given

  pub units_counted : now ≡ begun + sum us
  units_counted = let s = ap sum units_are ∙ sum_listed r.given in let c = r.counted in omega arith

  module _ (w : world old ≡ opening p) where
    ran_so : runs p (all_tests p) ≡ Some r.given
    unfolding runs
    ran_so = ap (λ (v : World). runs_on p v (all_tests p)) (sym w) ∙ r.ran

    pub own_run : suite_fault p ≡ None → follows old empty_trace [] → IsOwnRun world follows p new us
    own_run f h =
        let n = length p.tests in
        let T = touches_of p in
        let g = gave_all p r.given ran_so in
        let z : 0 + n ≡ n = omega arith in
        record {
          detected = detected_from p f;
          told = subst (λ (k : ℕ). follows new (trace_to T k) (touched_by T k)) z (subst (λ (s : Trace × List Touch). follows new s.0 s.1) (trace_all p n 0 r.given g) (r.told empty_trace [] h));
          left = r.left ∙ ap (λ (v : World). world_after v r.given) w ∙ world_last p n 0 (opening p) r.given refl g ∙ ap (world_at p) z;
          units = units_are ∙ units_listed p r.given ran_so;
        }

  -- and so on the memory that was opened, and that is lent then
  pub own_run_on : (opened lent : M) → old ≡ opened → lent ≡ new → world opened ≡ opening p → suite_fault p ≡ None → follows opened empty_trace [] → IsOwnRun world follows p lent us
  own_run_on opened lent e l w f h =
      subst (λ (m : M). IsOwnRun world follows p m us) (sym l) (own_run (ap world e ∙ w) f (subst (λ (m : M). follows m empty_trace []) (sym e) h))
