use Rattle.std.proofs.Common.{[], None}
use Rattle.jvm_model.specs.declared.state.Stage.TheVariants.{Last}
use Rattle.jvm_model.specs.Driver.{drives}
use Rattle.vm_interp.specs.Abs.{abs}
use Rattle.vm_interp.proofs.Used.{use_safe, made_ready, made_begun, made_refused, made_spent}
use Rattle.vm_interp.proofs.driving.first_static.Goals as goal

pub begin_use-requires : goal.begin_use-requires
begin_use-requires g c = record { safe = (c.requires.fit.0, use_safe c.args.tables.now c.args.class (abs c.args.state.now) (drives c.args.tables.now c.args.method [] (Last None) (abs c.args.state.now)) (g.M.Memory.world c.args.memory.now) c.requires.fit.1) }

pub returns-in-Ready : goal.returns-in-Ready
returns-in-Ready g c = record {
  made = made_ready g.M.Memory.program g.M.Memory.world g.M.Memory.follows (λ p s. drives p c.args.method [] (Last None) s) c.args.class c.args.memory.now c.begin_use.new.memory c.args.state.now c.begin_use.new.stack c.args.left.now c.begin_use.new.left c.in_ok-begin_use.field-0
      c.in_ok-begin_use.ensures.made.0 c.in_ok-begin_use.ensures.made.1.0 c.in_ok-begin_use.ensures.made.1.1 c.in_ok-begin_use.ensures.entries
      c.in-Ready.is c.call_method.new.memory c.call_method.result c.call_method.new.state c.call_method.new.left c.call_method.ensures.made;
}

pub returns-in-Begun : goal.returns-in-Begun
returns-in-Begun g c = record {
  made = made_begun g.M.Memory.program g.M.Memory.world g.M.Memory.follows (λ p s. drives p c.args.method [] (Last None) s) c.args.class c.args.memory.now c.begin_use.new.memory c.args.state.now c.begin_use.new.stack c.args.left.now c.begin_use.new.left c.in_ok-begin_use.field-0
      c.in_ok-begin_use.ensures.made.0 c.in_ok-begin_use.ensures.made.1.0 c.in_ok-begin_use.ensures.made.1.1 c.in_ok-begin_use.ensures.entries
      c.in-Begun.is;
}

pub returns-in-Fault : goal.returns-in-Fault
returns-in-Fault g c = record {
  made = made_refused g.M.Memory.program g.M.Memory.world g.M.Memory.follows (λ p s. drives p c.args.method [] (Last None) s) c.args.class c.args.memory.now c.begin_use.new.memory c.args.state.now c.begin_use.new.stack c.args.left.now c.begin_use.new.left c.in_ok-begin_use.field-0
      c.in_ok-begin_use.ensures.made.0 c.in_ok-begin_use.ensures.made.1.0 c.in_ok-begin_use.ensures.made.1.1 c.in_ok-begin_use.ensures.entries
      c.in-Fault.class c.in-Fault.is c.throw_new.new.memory c.throw_new.result c.throw_new.new.state c.throw_new.new.left c.throw_new.ensures.made;
}

pub returns-in-Over : goal.returns-in-Over
returns-in-Over g c = record {
  made = made_spent g.M.Memory.program g.M.Memory.world g.M.Memory.follows (λ p s. drives p c.args.method [] (Last None) s) c.args.class c.args.memory.now c.begin_use.new.memory c.args.state.now c.begin_use.new.stack c.args.left.now c.begin_use.new.left c.in_ok-begin_use.field-0
      c.in_ok-begin_use.ensures.made.0 c.in_ok-begin_use.ensures.made.1.0 c.in_ok-begin_use.ensures.made.1.1 c.in_ok-begin_use.ensures.entries
      c.in-Over.is c.args.state.now c.args.left.now;
}
