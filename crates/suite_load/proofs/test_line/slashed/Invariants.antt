use Rattle.std.proofs.Common.{◌≡◌, take, map}
use Rattle.suite_load.specs.SuiteForm.{slash_for_dot}
use Rattle.suite_load.proofs.test_line.slashed.Given as goal

abbrev pub invariant-loop-b : goal.invariant-loop-b
invariant-loop-b l = l.units ≡ map slash_for_dot (take l.b-index l.bytes)
