-- The run of a whole suite: its outcomes and units, and how it is answered where it passes a number of units.
use Rattle.std.proofs.Common.{◌≡◌, ℕ, ◌+◌, ◌≤◌, List, [], ◌∷◌, length, map, refl, sym, ◌∙◌, ap, subst, arith, Option, Some, None}
use Rattle.std.proofs.lemmas.List.{length-map, FromFn.length-range_with_len}
use Rattle.std.specs.Prelude.{option_map}
use Rattle.jvm_model.specs.{declared.outcome.Outcome.Outcome, declared.values.Touch.Touch, World.World}
use Rattle.jvm_model.specs.Suite.{Given, over_budget, over_suite, suite_fault, runs, runs_on, all_tests, opening, units_of}
use Rattle.vm_mem.specs.Trace.{Trace}
use Rattle.test_run.specs.Lists.{RanList}
use Rattle.detect_run.specs.{declared.fault.DetectFault.DetectFault, SuiteRun.IsSuiteFault}
use Rattle.detect_run.specs.declared.fault.DetectFault.TheVariants as fault
use Rattle.suite_load.specs.declared.loaded.Loaded.{Loaded}
use Rattle.electrictest.specs.{declared.status.Status.Status, Running.Ran, Running.RunRefused, TestNames.units_in, Tests.passed_units, Wholes.outcomes_of}

units_alike : (xs : List Given) → units_in (map (λ (x : Given). x.outcome) xs) ≡ units_of xs
units_alike [] = refl
units_alike (x ∷ xs) = ap (λ (n : ℕ). x.outcome.units + n) (units_alike xs)

module _ {M : Type 0} (world : M → World) (follows : M → Trace → List Touch → Type 0) (l : Loaded) (old new : M) (os : List Outcome) (begun now : ℕ) (r : RanList world follows l.checked old new (all_tests l.checked) os begun now) where
  pub ran_whole : world old ≡ opening l.checked → suite_fault l.checked ≡ None → length l.checked.tests ≤ 1024 → Ran l os
  unfolding outcomes_of runs
  ran_whole e f few =
      let p = l.checked in
      let n = ap length r.outcomes ∙ length-map r.given (λ (x : Given). x.outcome) ∙ r.each ∙ length-range_with_len 1 (length p.tests) in
      record {
        within = f;
        ran = ap (λ (o : Option (List Given)). option_map (map (λ (x : Given). x.outcome)) o) (ap (λ (w : World). runs_on p w (all_tests p)) (sym e) ∙ r.ran) ∙ ap (λ (z : List Outcome). Some z) (sym r.outcomes);
        few = omega arith;
      }

  pub counted_whole : now ≡ begun + units_in os
  counted_whole = let e = ap units_in r.outcomes ∙ units_alike r.given in let c = r.counted in omega arith

refused_as : (l : Loaded) (f : DetectFault) → IsSuiteFault l.checked f → RunRefused l (passed_units l.names f)
refused_as l (fault.OverBudget t b) e = record { found = over_budget t b; passes = e; named = refl }
refused_as l (fault.OverSuite t) e = record { found = over_suite t; passes = e; named = refl }
refused_as l fault.NoMemory e = tt

-- a suite that is refused, as it is answered
pub refused_whole : (l : Loaded) (f : DetectFault) (s : Status) → IsSuiteFault l.checked f → s ≡ passed_units l.names f → RunRefused l s
refused_whole l f s h e = subst (RunRefused l) (sym e) (refused_as l f h)
