use Rattle.std.proofs.Common.{◌≡◌, ◌++◌}
use Rattle.electrictest.proofs.OrderLists.{left}
use Rattle.electrictest.proofs.reports.push_listed.Given as goal

-- what was written, and the lines that are left
abbrev pub invariant-loop-place : goal.invariant-loop-place
invariant-loop-place l = l.out ++ left l.names l.test l.tests l.outcomes l.place ≡ l.fn.out ++ left l.names l.test l.tests l.outcomes 0
