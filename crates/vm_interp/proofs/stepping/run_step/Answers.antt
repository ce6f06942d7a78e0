use Rattle.jvm_model.specs.Step.{row_here}
use Rattle.vm_interp.proofs.NoEntry.{room_then}
use Rattle.vm_interp.proofs.Stepped.{row_ready, met_in, fit_after, made_over, made_row}
use Rattle.vm_interp.proofs.stepping.run_step.Goals as goal

pub row_here-requires-clause-row : goal.row_here-requires-clause-row
row_here-requires-clause-row g c = row_ready row_here c.args.tables.now g.M.Memory.program g.M.Memory.world c.args.memory.now c.args.state.now c.requires.fit

pub returns-in-Over-clause-made : goal.returns-in-Over-clause-made
returns-in-Over-clause-made g c = made_over g.M.Memory.program g.M.Memory.world g.M.Memory.follows row_here c.args.memory.now c.row_here.new.memory c.args.state.now c.row_here.new.stack c.args.left.now c.row_here.new.left c.in_ok-next.next
    c.in_ok-next.ensures.made.0 c.in_ok-next.ensures.made.1.0 c.in_ok-next.ensures.made.1.1
    c.in-Over.is c.args.state.now c.args.left.now

pub conclude-requires : goal.conclude-requires
conclude-requires g c = record {
  room = room_then row_here c.args.tables.now (g.M.Memory.world c.args.memory.now) c.args.state.now.frames c.args.left.now c.in_ok-next.next c.row_here.new.stack (g.M.Memory.world c.row_here.new.memory) c.row_here.new.left c.in_default.not-Over
      (met_in g.M.Memory.program g.M.Memory.world g.M.Memory.follows row_here c.args.memory.now c.row_here.new.memory c.args.state.now c.row_here.new.stack c.args.left.now c.row_here.new.left c.in_ok-next.next
      c.in_ok-next.ensures.made.0 c.in_ok-next.ensures.made.1.0 c.in_ok-next.ensures.made.1.1 c.args.tables.now c.requires.fit.0) c.requires.native_space;
  fit = fit_after g.M.Memory.program g.M.Memory.world g.M.Memory.follows row_here c.args.memory.now c.row_here.new.memory c.args.state.now c.row_here.new.stack c.args.left.now c.row_here.new.left c.in_ok-next.next
      c.in_ok-next.ensures.made.0 c.in_ok-next.ensures.made.1.0 c.in_ok-next.ensures.made.1.1
      c.in_default.not-Over c.args.tables.now c.requires.fit;
}

pub returns-clause-made : goal.returns-clause-made
returns-clause-made g c = made_row g.M.Memory.program g.M.Memory.world g.M.Memory.follows row_here c.args.memory.now c.row_here.new.memory c.args.state.now c.row_here.new.stack c.args.left.now c.row_here.new.left c.in_ok-next.next
    c.in_ok-next.ensures.made.0 c.in_ok-next.ensures.made.1.0 c.in_ok-next.ensures.made.1.1
    c.in_default.not-Over c.conclude.new.memory c.conclude.result c.conclude.new.state c.conclude.new.left c.conclude.ensures.made
