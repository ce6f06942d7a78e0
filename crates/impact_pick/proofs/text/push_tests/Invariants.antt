use Rattle.std.proofs.Common.{◌≡◌, ◌++◌, drop}
use Rattle.std.specs.List.{flat_map}
use Rattle.impact_pick.specs.ImpactText.{again_line}
use Rattle.impact_pick.proofs.text.push_tests.Given as goal

-- what was written, and the lines that are left
abbrev pub invariant-loop-test : goal.invariant-loop-test
invariant-loop-test l = l.out ++ flat_map (again_line l.names) (drop l.test-index l.tests) ≡ l.fn.out ++ flat_map (again_line l.names) l.tests
