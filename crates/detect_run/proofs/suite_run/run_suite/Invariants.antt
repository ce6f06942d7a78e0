use Rattle.std.proofs.Common.{◌≡◌, ◌++◌}
use Rattle.detect_run.specs.SuiteRun.{Along, tests_to}
use Rattle.detect_run.proofs.suite_run.run_suite.Given as goal

-- the first tests ran
abbrev pub invariant-loop-index : goal.invariant-loop-index
invariant-loop-index g l = record {
  along : Along g.M.Memory.world g.M.Memory.follows l.p l.fn.machine.memory l.machine.memory l.index l.rest l.outcomes l.fn.steps l.steps;
  same : l.machine ≡ record l.fn.machine { list = l.fn.machine.list ++ tests_to l.index; memory = l.machine.memory };
}
