use Rattle.std.proofs.Common.{sym, subst}
use Rattle.jvm_model.specs.declared.program.Program.{Program}
use Rattle.vm_mem.specs.Refines.{IsReady}
use Rattle.vm_natives.specs.Rows.{native_row, with_own}
use Rattle.vm_interp.specs.{Abs.abs, Turns.builtin_part}
use Rattle.vm_interp.proofs.Builtin.{native_ready, made_go, made_fault, made_spent, not_raise, not_leave, not_enter}
use Rattle.vm_interp.proofs.Stepped.{fit_own}
use Rattle.vm_interp.proofs.concluding.run_builtin.Goals as goal

pub native-requires-clause-row : goal.native-requires-clause-row
native-requires-clause-row g c = subst (λ (p : Program). IsReady (native_row c.args.which) p g.M.Memory.program g.M.Memory.world c.args.memory.now (with_own c.args.state.now.frames c.args.state.now.own)) (sym c.program.ensures)
    (native_ready c.args.which c.args.tables.now g.M.Memory.program g.M.Memory.world c.args.memory.now c.args.state.now c.requires.fit)

pub unreachable-requires : goal.unreachable-requires
unreachable-requires g c = not_raise g.M.Memory.program g.M.Memory.world g.M.Memory.follows c.args.which c.args.memory.now c.native.new.memory c.native.new.memory (abs c.args.state.now) (with_own c.native.new.stack c.native.new.own) c.args.left.now c.native.new.left c.in_ok-next.next
    c.in_ok-next.ensures.made.0 c.in_ok-next.ensures.made.1.0 _ c.in-Raise.is (fit_own (builtin_part c.args.which) c.args.tables.now g.M.Memory.program g.M.Memory.world c.args.memory.now c.args.state.now c.requires.fit)

pub unreachable-requires-in-Enter : goal.unreachable-requires-in-Enter
unreachable-requires-in-Enter g c = not_enter g.M.Memory.program g.M.Memory.world g.M.Memory.follows c.args.which c.args.memory.now c.native.new.memory c.native.new.memory (abs c.args.state.now) (with_own c.native.new.stack c.native.new.own) c.args.left.now c.native.new.left c.in_ok-next.next
    c.in_ok-next.ensures.made.0 c.in_ok-next.ensures.made.1.0 _ c.in-Enter.is (fit_own (builtin_part c.args.which) c.args.tables.now g.M.Memory.program g.M.Memory.world c.args.memory.now c.args.state.now c.requires.fit)

pub unreachable-requires-in-Leave : goal.unreachable-requires-in-Leave
unreachable-requires-in-Leave g c = not_leave g.M.Memory.program g.M.Memory.world g.M.Memory.follows c.args.which c.args.memory.now c.native.new.memory c.native.new.memory (abs c.args.state.now) (with_own c.native.new.stack c.native.new.own) c.args.left.now c.native.new.left c.in_ok-next.next
    c.in_ok-next.ensures.made.0 c.in_ok-next.ensures.made.1.0 c.in-Leave.is (fit_own (builtin_part c.args.which) c.args.tables.now g.M.Memory.program g.M.Memory.world c.args.memory.now c.args.state.now c.requires.fit)

pub returns-in-Go : goal.returns-in-Go
returns-in-Go g c = record {
  made = made_go g.M.Memory.program g.M.Memory.world g.M.Memory.follows c.args.which c.args.memory.now c.native.new.memory c.args.state.now (with_own c.native.new.stack c.native.new.own) c.args.left.now c.native.new.left c.in_ok-next.next
      c.in_ok-next.ensures.made.0 c.in_ok-next.ensures.made.1.0 c.in_ok-next.ensures.made.1.1
      c.in-Go.is;
}

pub returns-in-Fault : goal.returns-in-Fault
returns-in-Fault g c = record {
  made = made_fault g.M.Memory.program g.M.Memory.world g.M.Memory.follows c.args.which c.args.memory.now c.native.new.memory c.args.state.now (with_own c.native.new.stack c.native.new.own) c.args.left.now c.native.new.left c.in_ok-next.next
      c.in_ok-next.ensures.made.0 c.in_ok-next.ensures.made.1.0 c.in_ok-next.ensures.made.1.1
      c.in-Fault.class c.in-Fault.is c.throw_new.new.memory c.throw_new.result c.throw_new.new.state c.throw_new.new.left c.throw_new.ensures.made;
}

pub returns-in-Over : goal.returns-in-Over
returns-in-Over g c = record {
  made = made_spent g.M.Memory.program g.M.Memory.world g.M.Memory.follows c.args.which c.args.memory.now c.native.new.memory c.args.state.now (with_own c.native.new.stack c.native.new.own) c.args.left.now c.native.new.left c.in_ok-next.next
      c.in_ok-next.ensures.made.0 c.in_ok-next.ensures.made.1.0 c.in_ok-next.ensures.made.1.1
      c.in-Over.is c.args.state.now c.args.left.now;
}
