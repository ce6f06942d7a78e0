use Rattle.std.proofs.Common.{sym, subst}
use Rattle.jvm_model.specs.declared.program.Program.{Program}
use Rattle.vm_mem.specs.Refines.{IsReady}
use Rattle.class_init.specs.Starting.{fail_row}
use Rattle.vm_interp.proofs.NoEntry.{no_room, fail_enters_none}
use Rattle.vm_interp.proofs.Stepped.{row_ready, met_in, fit_after, made_over, made_row}
use Rattle.vm_interp.proofs.stepping.fail_step.Goals as goal

pub fail-requires : goal.fail-requires
fail-requires g c = record {
  row = subst (λ (p : Program). IsReady (fail_row c.args.thrown) p g.M.Memory.program g.M.Memory.world c.args.memory.now c.args.state.now.frames) (sym c.program.ensures)
      (row_ready (fail_row c.args.thrown) c.args.tables.now g.M.Memory.program g.M.Memory.world c.args.memory.now c.args.state.now c.requires.fit);
}

pub returns-in-Over : goal.returns-in-Over
returns-in-Over g c = record {
  made = made_over g.M.Memory.program g.M.Memory.world g.M.Memory.follows (fail_row c.args.thrown) c.args.memory.now c.fail.new.memory c.args.state.now c.fail.new.stack c.args.left.now c.fail.new.left c.in_ok-next.next
      c.in_ok-next.ensures.made.0 c.in_ok-next.ensures.made.1.0 c.in_ok-next.ensures.made.1.1
      c.in-Over.is c.args.state.now c.args.left.now;
}

pub conclude-requires : goal.conclude-requires
conclude-requires g c = record {
  room = no_room (fail_row c.args.thrown) c.args.tables.now (g.M.Memory.world c.args.memory.now) c.args.state.now.frames c.args.left.now c.in_ok-next.next c.fail.new.stack (g.M.Memory.world c.fail.new.memory) c.fail.new.left c.in_default.not-Over
      (met_in g.M.Memory.program g.M.Memory.world g.M.Memory.follows (fail_row c.args.thrown) c.args.memory.now c.fail.new.memory c.args.state.now c.fail.new.stack c.args.left.now c.fail.new.left c.in_ok-next.next
      c.in_ok-next.ensures.made.0 c.in_ok-next.ensures.made.1.0 c.in_ok-next.ensures.made.1.1 c.args.tables.now c.requires.fit.0) (fail_enters_none c.args.tables.now c.args.thrown c.args.state.now.frames);
  fit = fit_after g.M.Memory.program g.M.Memory.world g.M.Memory.follows (fail_row c.args.thrown) c.args.memory.now c.fail.new.memory c.args.state.now c.fail.new.stack c.args.left.now c.fail.new.left c.in_ok-next.next
      c.in_ok-next.ensures.made.0 c.in_ok-next.ensures.made.1.0 c.in_ok-next.ensures.made.1.1
      c.in_default.not-Over c.args.tables.now c.requires.fit;
}

pub returns : goal.returns
returns g c = record {
  made = made_row g.M.Memory.program g.M.Memory.world g.M.Memory.follows (fail_row c.args.thrown) c.args.memory.now c.fail.new.memory c.args.state.now c.fail.new.stack c.args.left.now c.fail.new.left c.in_ok-next.next
      c.in_ok-next.ensures.made.0 c.in_ok-next.ensures.made.1.0 c.in_ok-next.ensures.made.1.1
      c.in_default.not-Over c.conclude.new.memory c.conclude.result c.conclude.new.state c.conclude.new.left c.conclude.ensures.made;
}
