use Rattle.std.proofs.Common.{◌≡◌, map, take}
use Rattle.suite_load.specs.Loading.{line_of}
use Rattle.suite_load.proofs.linking.tests_of.Given as goal

abbrev pub invariant-loop-test : goal.invariant-loop-test
invariant-loop-test l = l.made ≡ map line_of (take l.test-index l.tests)
