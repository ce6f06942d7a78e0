-- When the answer of a plan, and of a test run apart, is which fault. Want of memory is free.
use Rattle.std.specs.Prelude.{ℕ, List}
use Rattle.jvm_model.specs.declared.program.Program.{Program}
use Rattle.test_run.specs.declared.run_fault.RunFault.{RunFault}
use Rattle.test_run.specs.declared.run_fault.RunFault.TheVariants as run
use Rattle.worker_pool.specs.{declared.plan_fault.PlanFault.PlanFault, Plans.GivesNone, Plans.IsStop}
use Rattle.worker_pool.specs.declared.plan_fault.PlanFault.TheVariants as fault

abbrev pub IsPlanFault : Program → List (List ℕ) → ℕ → PlanFault → Type 0
IsPlanFault p C n (fault.OverBudget w t l) = IsStop p C n w t l
IsPlanFault p C n fault.NoMemory = Unit {0}

abbrev pub IsRunFault : Program → List ℕ → ℕ → RunFault → Type 0
IsRunFault p l t (run.OverBudget u) = GivesNone p l t
IsRunFault p l t run.NoMemory = Unit {0}
