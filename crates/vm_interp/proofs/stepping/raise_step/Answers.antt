use Rattle.std.proofs.Common.{sym, subst}
use Rattle.jvm_model.specs.declared.program.Program.{Program}
use Rattle.vm_mem.specs.Refines.{IsReady}
use Rattle.exception_flow.specs.Raise.{raise_row}
use Rattle.vm_interp.proofs.NoEntry.{no_room, raise_enters_none}
use Rattle.vm_interp.proofs.Stepped.{row_ready, met_in, fit_after, made_over, made_row}
use Rattle.vm_interp.proofs.stepping.raise_step.Goals as goal

pub raise-requires-clause-row : goal.raise-requires-clause-row
raise-requires-clause-row g c = subst (λ (p : Program). IsReady (raise_row c.args.thrown) p g.M.Memory.program g.M.Memory.world c.args.memory.now c.args.state.now.frames) (sym c.program.ensures)
    (row_ready (raise_row c.args.thrown) c.args.tables.now g.M.Memory.program g.M.Memory.world c.args.memory.now c.args.state.now c.requires.fit)

pub returns-in-Over : goal.returns-in-Over
returns-in-Over g c = record {
  made = made_over g.M.Memory.program g.M.Memory.world g.M.Memory.follows (raise_row c.args.thrown) c.args.memory.now c.raise.new.memory c.args.state.now c.raise.new.stack c.args.left.now c.raise.new.left c.in_ok-next.next
      c.in_ok-next.ensures.made.0 c.in_ok-next.ensures.made.1.0 c.in_ok-next.ensures.made.1.1
      c.in-Over.is c.args.state.now c.args.left.now;
}

pub conclude-requires : goal.conclude-requires
conclude-requires g c = record {
  room = no_room (raise_row c.args.thrown) c.args.tables.now (g.M.Memory.world c.args.memory.now) c.args.state.now.frames c.args.left.now c.in_ok-next.next c.raise.new.stack (g.M.Memory.world c.raise.new.memory) c.raise.new.left c.in_default.not-Over
      (met_in g.M.Memory.program g.M.Memory.world g.M.Memory.follows (raise_row c.args.thrown) c.args.memory.now c.raise.new.memory c.args.state.now c.raise.new.stack c.args.left.now c.raise.new.left c.in_ok-next.next
      c.in_ok-next.ensures.made.0 c.in_ok-next.ensures.made.1.0 c.in_ok-next.ensures.made.1.1 c.args.tables.now c.requires.fit.0) (raise_enters_none c.args.tables.now c.args.thrown c.args.state.now.frames);
  fit = fit_after g.M.Memory.program g.M.Memory.world g.M.Memory.follows (raise_row c.args.thrown) c.args.memory.now c.raise.new.memory c.args.state.now c.raise.new.stack c.args.left.now c.raise.new.left c.in_ok-next.next
      c.in_ok-next.ensures.made.0 c.in_ok-next.ensures.made.1.0 c.in_ok-next.ensures.made.1.1
      c.in_default.not-Over c.args.tables.now c.requires.fit;
}

pub returns : goal.returns
returns g c = record {
  made = made_row g.M.Memory.program g.M.Memory.world g.M.Memory.follows (raise_row c.args.thrown) c.args.memory.now c.raise.new.memory c.args.state.now c.raise.new.stack c.args.left.now c.raise.new.left c.in_ok-next.next
      c.in_ok-next.ensures.made.0 c.in_ok-next.ensures.made.1.0 c.in_ok-next.ensures.made.1.1
      c.in_default.not-Over c.conclude.new.memory c.conclude.result c.conclude.new.state c.conclude.new.left c.conclude.ensures.made;
}
