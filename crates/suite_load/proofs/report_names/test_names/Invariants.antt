use Rattle.std.proofs.Common.{◌≡◌, map, take}
use Rattle.suite_load.proofs.report_names.test_names.Given as goal

abbrev pub invariant-loop-test : goal.invariant-loop-test
invariant-loop-test l = l.made ≡ map (λ x. x.name) (take l.test-index l.tests)
