use Rattle.std.proofs.Common.{◌≡◌, List}
use Rattle.jvm_model.specs.declared.values.Touch.{Touch}
use Rattle.vm_mem.specs.Trace.{Trace}
use Rattle.vm_interp.specs.Abs.{abs}
use Rattle.vm_interp.proofs.Whole.{IsRest}
use Rattle.vm_interp.proofs.running.run_safe.Given as goal

-- the program is the same, and the rest of the test is to be run
abbrev pub invariant-loop-left : goal.invariant-loop-left
invariant-loop-left g l = record {
  of : g.M.Memory.program l.memory ≡ g.M.Memory.program l.fn.memory;
  kept : l.selections ≡ l.fn.selections;
  so_far : List Touch → List Touch;
  rest : IsRest l.tables l.fn.state.test (g.M.Memory.world l.fn.memory) l.fn.left (abs l.state) (g.M.Memory.world l.memory) l.left so_far;
  told : (h : Trace) (ts : List Touch) → g.M.Memory.follows l.fn.memory h ts → g.M.Memory.follows l.memory h (so_far ts);
}

abbrev pub decreases-loop-left : goal.decreases-loop-left
decreases-loop-left g l = l.left
