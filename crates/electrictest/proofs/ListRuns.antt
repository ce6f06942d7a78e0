-- The run of a list of tests.
use Rattle.std.proofs.Common.{◌≡◌, ℕ, ◌+◌, List, [], ◌∷◌, length, map, refl, sym, ap, ◌∙◌}
use Rattle.std.proofs.lemmas.List.{length-map}
use Rattle.jvm_model.specs.{declared.outcome.Outcome.Outcome, declared.program.Program.Program, declared.values.Touch.Touch, World.World}
use Rattle.jvm_model.specs.Suite.{Given, first_over, first_over_on, opening, runs, runs_on, units_of}
use Rattle.vm_mem.specs.Trace.{Trace}
use Rattle.suite_load.specs.declared.loaded.Loaded.{Loaded}
use Rattle.test_run.specs.{declared.run_fault.RunFault.RunFault, Lists.RanList, Lists.IsListRefused}
use Rattle.test_run.specs.declared.run_fault.RunFault.TheVariants as fault
use Rattle.electrictest.specs.{Running.RanInOrder, Running.ListRefused, TestNames.units_in, Tests.list_status}

units_same : (xs : List Given) → units_of xs ≡ units_in (map (λ x. x.outcome) xs)
units_same [] = refl
units_same (x ∷ xs) = ap (λ n. x.outcome.units + n) (units_same xs)

-- the tests ran on a memory of the opening world
pub list_ran : {M : Type 0} (world : M → World) (follows : M → Trace → List Touch → Type 0) (l : Loaded) (p : Program) (old new : M) (tests : List ℕ) (os : List Outcome) (begun now : ℕ) →
    p ≡ l.checked → world old ≡ opening l.checked → RanList world follows p old new tests os begun now → RanInOrder l tests begun now os
unfolding runs
list_ran world follows l p old new tests os begun now e f r =
    record {
      given = r.given;
      ran = sym (ap (λ q. runs_on q (world old) tests) e ∙ ap (λ w. runs_on l.checked w tests) f) ∙ r.ran;
      gives = r.outcomes;
      each = ap (λ (z : List Outcome). length z) r.outcomes ∙ length-map r.given (λ x. x.outcome) ∙ r.each;
      counts = r.counted ∙ ap (λ n. begun + n) (units_same r.given ∙ ap units_in (sym r.outcomes));
    }

-- they were refused
pub list_refused : (l : Loaded) (p : Program) (w : World) (tests : List ℕ) (f : RunFault) → p ≡ l.checked → w ≡ opening l.checked → IsListRefused p w tests f → ListRefused l tests (list_status l f)
unfolding first_over
list_refused l p w tests (fault.OverBudget t) e f h = (t, sym (ap (λ z. first_over_on z w tests) e ∙ ap (λ v. first_over_on l.checked v tests) f) ∙ h, refl)
list_refused l p w tests fault.NoMemory e f h = tt
