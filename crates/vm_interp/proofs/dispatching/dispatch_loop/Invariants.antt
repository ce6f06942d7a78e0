use Rattle.std.proofs.Common.{◌≡◌, List}
use Rattle.jvm_model.specs.declared.values.Touch.{Touch}
use Rattle.vm_mem.specs.Trace.{Trace}
use Rattle.vm_interp.specs.{Dispatching.Stands, Dispatching.Steps, Abs.abs}
use Rattle.vm_interp.proofs.dispatching.dispatch_loop.Given as goal

-- such steps were made up to these entries, and the test is at the first of these instructions
abbrev pub invariant-loop-units : goal.invariant-loop-units
invariant-loop-units g l = record {
  program : l.tables ≡ g.M.Memory.program l.memory;
  kept : l.selections ≡ l.fn.selections;
  others : l.state ≡ record l.fn.state { frames = l.state.frames };
  stands : Stands l.tables l.cursor.body.now l.cursor.rest.now l.frames;
  so_far : List Touch → List Touch;
  steps : Steps l.tables (abs l.fn.state) (g.M.Memory.world l.fn.memory) l.fn.left (record (abs l.fn.state) { entries = l.frames }) (g.M.Memory.world l.memory) l.units so_far;
  told : (h : Trace) (ts : List Touch) → g.M.Memory.follows l.fn.memory h ts → g.M.Memory.follows l.memory h (so_far ts);
}

abbrev pub decreases-loop-units : goal.decreases-loop-units
decreases-loop-units g l = l.units
