-- The run of a whole suite within its limit, test by test.
use Rattle.std.proofs.Common.{◌≡◌, ℕ, zero, suc, ◌+◌, ◌-◌, ◌<◌, ◌≤◌, List, [], ◌∷◌, ◌++◌, length, nat_le, refl, sym, ◌∙◌, ap, subst, inl, inr, arith, Some, None}
use Rattle.std.specs.List.{range_with_len}
use Rattle.std.proofs.lemmas.Bool.{cases_Bool}
use Rattle.jvm_model.specs.declared.outcome.Outcome.{Outcome}
use Rattle.jvm_model.specs.declared.program.Program.{Program}
use Rattle.jvm_model.specs.declared.values.Touch.{Touch}
use Rattle.jvm_model.specs.{State.test_at, World.World}
use Rattle.jvm_model.specs.Suite.{Given, SuiteFault, over_budget, over_suite, fault_of, fault_on, suite_fault, suite_limit, opening, all_tests, one_test}
use Rattle.et_base.proofs.Ranges.{range_more}
use Rattle.jvm_model.proofs.Budgets.{one_test_units}
use Rattle.vm_mem.specs.Trace.{Trace}
use Rattle.test_run.specs.{Lists.RanList, Lists.RanNext, Outcomes.touches_of, Running.least}
use Rattle.test_run.proofs.{After.own_budget, Lists.ran_first, Lists.ran_more}
use Rattle.detect_run.specs.declared.fault.DetectFault.{DetectFault}
use Rattle.detect_run.specs.declared.fault.DetectFault.TheVariants as fault
use Rattle.detect_run.specs.SuiteRun.{IsSuiteFault, IsOneRefused, RanOne, Along, over_of, tests_to, tests_after}

-- one test more
pub to_more : (i : ℕ) → tests_to (i + 1) ≡ tests_to i ++ ((i + 1) ∷ [])
to_more i = range_more 1 i (i + 1) (omega arith)

after_more : (p : Program) (i : ℕ) → i < length p.tests → tests_after p i ≡ (i + 1) ∷ tests_after p (i + 1)
after_more p i h = ap (range_with_len (i + 1)) (let e : length p.tests - i ≡ suc (length p.tests - (i + 1)) = omega arith in e)

after_all : (p : Program) (i : ℕ) → length p.tests ≤ i → tests_after p i ≡ []
after_all p i h = ap (range_with_len (i + 1)) (let e : length p.tests - i ≡ zero = omega arith in e)

-- the first fault where a test gives something, and where it gives nothing
fault_more : (p : Program) (w : World) (r t : ℕ) (l : List ℕ) (x : Given) → one_test p w t (least p t r) ≡ Some x → fault_on p w r (t ∷ l) ≡ fault_on p x.world (r - x.outcome.units) l
fault_more p w r t l x e = ap (λ o. elim o [ None ↦ Some (fault_of p t r) | Some y ↦ fault_on p y.world (r - y.outcome.units) l ]) e

fault_here : (p : Program) (w : World) (r t : ℕ) (l : List ℕ) → one_test p w t (least p t r) ≡ None → fault_on p w r (t ∷ l) ≡ Some (fault_of p t r)
fault_here p w r t l e = ap (λ o. elim o [ None ↦ Some (fault_of p t r) | Some y ↦ fault_on p y.world (r - y.outcome.units) l ]) e

named : (p : Program) (t r : ℕ) → suite_fault p ≡ Some (fault_of p t r) → IsSuiteFault p (over_of p t r)
named p t r e = elim (cases_Bool (nat_le (test_at p t).budget r)) [
  | inl k ↦
      let b = (test_at p t).budget in
      let g : fault_of p t r ≡ over_budget t b = rw k refl in
      let s : over_of p t r ≡ fault.OverBudget t b = rw k refl in
      subst (IsSuiteFault p) (sym s) (e ∙ ap (λ (z : SuiteFault). Some z) g)
  | inr k ↦
      let g : fault_of p t r ≡ over_suite t = rw k refl in
      let s : over_of p t r ≡ fault.OverSuite t = rw k refl in
      subst (IsSuiteFault p) (sym s) (e ∙ ap (λ (z : SuiteFault). Some z) g)
]

-- its units are within the rest of the suite's
pub units_within : {M : Type 0} (world : M → World) (follows : M → Trace → List Touch → Type 0) (p : Program) (old new : M) (t rest : ℕ) (o : Outcome) → RanOne world follows p old new t rest o → o.units ≤ rest
units_within world follows p old new t rest o r =
    let u = one_test_units p (world old) t (least p t rest) (record { outcome = o; world = world new; touches = touches_of p t (world old) (least p t rest) }) r.gives in
    omega arith

module _ {M : Type 0} (world : M → World) (follows : M → Trace → List Touch → Type 0) (p : Program) where
  -- before the first test
  pub along_first : (m : M) (os : List Outcome) (begun : ℕ) → world m ≡ opening p → os ≡ [] → Along world follows p m m 0 67108864 os begun begun
  unfolding suite_fault suite_limit
  along_first m os begun e f =
      let all : tests_after p 0 ≡ all_tests p = ap (range_with_len 1) (let z : length p.tests - 0 ≡ length p.tests = omega arith in z) in
      subst (λ (z : List Outcome). Along world follows p m m 0 67108864 z begun begun) (sym f) (record {
        ran = ran_first world follows p m begun;
        faults = ap (λ (w : World). fault_on p w 67108864 (tests_after p 0)) e ∙ ap (fault_on p (opening p) 67108864) all;
      })

  module _ (old m new : M) (i rest : ℕ) (os : List Outcome) (begun now : ℕ) (a : Along world follows p old m i rest os begun now) (h : i < length p.tests) where
    -- one test more, whose outcome was added
    pub along_more : (o : Outcome) (more : List Outcome) (then : ℕ) → RanOne world follows p m new (i + 1) rest o → more ≡ os ++ (o ∷ []) → then ≡ now + o.units → Along world follows p old new (i + 1) (rest - o.units) more begun then
    along_more o more then r e q =
        let b = least p (i + 1) rest in
        let x : Given = record { outcome = o; world = world new; touches = touches_of p (i + 1) (world m) b } in
        let next : RanNext world follows p m new (i + 1) os more now then = record { given = x; gives = own_budget p (world m) (i + 1) b x (omega arith) r.gives; outcomes = e; left = refl; told = r.told; counted = q } in
        record {
          ran = subst (λ (l : List ℕ). RanList world follows p old new l more begun then) (sym (to_more i)) (ran_more world follows p old m new (tests_to i) (i + 1) os more begun now then a.ran next);
          faults = sym (ap (fault_on p (world m) rest) (after_more p i h) ∙ fault_more p (world m) rest (i + 1) (tests_after p (i + 1)) x r.gives) ∙ a.faults;
        }

    by_fault : (f : DetectFault) → (one_test p (world m) (i + 1) (least p (i + 1) rest) ≡ None) × (f ≡ over_of p (i + 1) rest) → IsSuiteFault p f
    by_fault f q =
        let e = ap (fault_on p (world m) rest) (after_more p i h) ∙ fault_here p (world m) rest (i + 1) (tests_after p (i + 1)) q.0 in
        subst (IsSuiteFault p) (sym q.1) (named p (i + 1) rest (sym a.faults ∙ e))

    -- a test that is refused
    pub along_refused : (f : DetectFault) → IsOneRefused p (world m) (i + 1) rest f → IsSuiteFault p f
    along_refused fault.NoMemory q = tt
    along_refused (fault.OverBudget t b) q = by_fault (fault.OverBudget t b) q
    along_refused (fault.OverSuite t) q = by_fault (fault.OverSuite t) q

  module _ (old m : M) (i rest : ℕ) (os : List Outcome) (begun now : ℕ) (a : Along world follows p old m i rest os begun now) (low : i ≤ length p.tests) (h : length p.tests ≤ i) where
    -- after the last test
    pub no_fault : suite_fault p ≡ None
    no_fault = sym a.faults ∙ ap (fault_on p (world m) rest) (after_all p i h)

    pub ran_all : RanList world follows p old m (all_tests p) os begun now
    ran_all = let e : i ≡ length p.tests = omega arith in subst (λ (n : ℕ). RanList world follows p old m (range_with_len 1 n) os begun now) e a.ran
