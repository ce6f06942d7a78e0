use Rattle.std.proofs.Common.{◌≡◌, ◌++◌, length}
use Rattle.jvm_model.specs.Texts.{test_lines}
use Rattle.electrictest.specs.Orders.{paired, by_test}
use Rattle.electrictest.proofs.OrderLists.{behind}
use Rattle.electrictest.proofs.reports.push_in_order.Given as goal

-- what was written, and the lines of the tests that are left
abbrev pub invariant-loop-index : goal.invariant-loop-index
invariant-loop-index l = l.out ++ behind l.names (paired l.tests l.outcomes) (length l.names.tests) l.index ≡ l.fn.out ++ test_lines l.names (by_test (length l.names.tests) (paired l.tests l.outcomes))
