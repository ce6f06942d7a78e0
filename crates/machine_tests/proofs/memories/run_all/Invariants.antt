use Rattle.std.proofs.Common.{◌≡◌, false}
use Rattle.machine_tests.proofs.memories.run_all.Given as goal

-- the machine is of the program, and ready
abbrev pub invariant-loop-index : goal.invariant-loop-index
invariant-loop-index g l = record {
  of : l.machine.program ≡ l.fn.machine.program;
  ready : l.machine.spent ≡ false;
}
