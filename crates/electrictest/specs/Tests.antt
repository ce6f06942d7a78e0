-- How a list of tests or a suite is answered that passes a number of units.
use Rattle.std.specs.Prelude.{[]}
use Rattle.jvm_model.specs.{declared.program.Names.Names, State.test_at}
use Rattle.detect_run.specs.declared.fault.DetectFault.{DetectFault}
use Rattle.detect_run.specs.declared.fault.DetectFault.TheVariants as fault
use Rattle.suite_load.specs.declared.loaded.Loaded.{Loaded}
use Rattle.test_run.specs.declared.run_fault.RunFault.{RunFault}
use Rattle.test_run.specs.declared.run_fault.RunFault.TheVariants as run
use Rattle.electrictest.specs.{declared.status.Status.Status, TestNames.test_name}
use Rattle.electrictest.specs.declared.status.Status.TheVariants as ends
use Rattle.electrictest.specs.declared.status.OverFault.TheVariants as over

-- a list of tests, by the name of the test that passes its budget
abbrev pub list_status : Loaded → RunFault → Status
list_status l (run.OverBudget t) = ends.Over (over.OverBudget (test_name l.names t) (test_at l.checked t).budget [])
list_status l run.NoMemory = ends.NoMemory

-- a suite, by the name of its test
abbrev pub passed_units : Names → DetectFault → Status
passed_units names (fault.OverBudget t budget) = ends.Over (over.OverBudget (test_name names t) budget [])
passed_units names (fault.OverSuite t) = ends.Over (over.OverSuite (test_name names t))
passed_units names fault.NoMemory = ends.NoMemory
