use Rattle.std.proofs.Common.{refl, sym, ◌∙◌}
use Rattle.jvm_model.specs.declared.instr.Instr.TheVariants as form
use Rattle.jvm_model.specs.{Classes.method_at, RowsCalls.argument_count}
use Rattle.vm_calls.specs.Calls.{call_row, method_row}
use Rattle.vm_calls.proofs.{Entered.calls_there, Entered.entered, Using.static_uses}
use Rattle.class_init.proofs.Using.{row_usable, ready_row, ready_makes, begun_makes, fault_makes, over_makes}
use Rattle.vm_calls.proofs.invoking.invoke_static.Goals as goal

pub begin_method_use-requires : goal.begin_method_use-requires
begin_method_use-requires g c =
    record {
      safe = row_usable (call_row (form.InvokeStatic c.args.method)) (method_row c.args.method (argument_count (g.M.Memory.program c.args.memory.now) c.args.method)) g.M.Memory.program g.M.Memory.world g.M.Memory.follows (method_at c.args.tables.now c.args.method).class c.args.memory.now c.args.stack.now
          (static_uses (g.M.Memory.program c.args.memory.now) c.args.tables.now (g.M.Memory.program c.args.memory.now) c.args.method (method_at c.args.tables.now c.args.method).class (argument_count (g.M.Memory.program c.args.memory.now) c.args.method) c.args.stack.now c.requires.row.0 refl refl refl) c.args.tables.now c.requires.row;
    }

pub enter_method-requires : goal.enter_method-requires
enter_method-requires g c =
    let used = c.in_ok-begin_method_use.ensures.made in
    record {
      arguments = calls_there c.args.tables.now c.args.method c.arguments-arguments.result c.begin_method_use.new.stack (g.M.Memory.world c.begin_method_use.new.memory) (ready_row (call_row (form.InvokeStatic c.args.method)) (method_row c.args.method c.arguments-arguments.result) g.M.Memory.program g.M.Memory.world g.M.Memory.follows (method_at c.args.tables.now c.args.method).class c.args.memory.now c.args.stack.now
          (static_uses (g.M.Memory.program c.args.memory.now) c.args.tables.now c.args.tables.now c.args.method (method_at c.args.tables.now c.args.method).class c.arguments-arguments.result c.args.stack.now c.requires.row.0 c.requires.row.0 refl c.arguments-arguments.ensures) c.args.left.now c.begin_method_use.new.memory c.in_ok-begin_method_use.field-0 c.begin_method_use.new.stack c.begin_method_use.new.left (used.0, used.1.0, used.1.1)
          c.args.tables.now c.args.tables.now c.in-Ready.is c.in_ok-begin_method_use.ensures.entries (c.requires.row.0 ∙ sym used.0) c.requires.row).1;
    }

pub returns-in-Ready : goal.returns-in-Ready
returns-in-Ready g c =
    let used = c.in_ok-begin_method_use.ensures.made in
    record {
      made = ready_makes (call_row (form.InvokeStatic c.args.method)) (method_row c.args.method c.arguments-arguments.result) g.M.Memory.program g.M.Memory.world g.M.Memory.follows (method_at c.args.tables.now c.args.method).class c.args.memory.now c.args.stack.now
          (static_uses (g.M.Memory.program c.args.memory.now) c.args.tables.now c.args.tables.now c.args.method (method_at c.args.tables.now c.args.method).class c.arguments-arguments.result c.args.stack.now c.requires.row.0 c.requires.row.0 refl c.arguments-arguments.ensures) c.args.left.now c.begin_method_use.new.memory c.in_ok-begin_method_use.field-0 c.begin_method_use.new.stack c.begin_method_use.new.left (used.0, used.1.0, used.1.1)
          c.begin_method_use.new.memory c.enter_method.result c.enter_method.new.stack c.enter_method.new.left c.in-Ready.is c.in_ok-begin_method_use.ensures.entries
          (entered g.M.Memory.program g.M.Memory.world g.M.Memory.follows c.args.tables.now c.args.method c.arguments-arguments.result c.begin_method_use.new.memory (c.requires.row.0 ∙ sym used.0)
          c.begin_method_use.new.stack c.begin_method_use.new.left c.enter_method.result c.enter_method.new.stack c.enter_method.new.left c.enter_method.ensures);
    }

pub returns-in-Begun : goal.returns-in-Begun
returns-in-Begun g c =
    let used = c.in_ok-begin_method_use.ensures.made in
    let ended = begun_makes (call_row (form.InvokeStatic c.args.method)) (method_row c.args.method (argument_count (g.M.Memory.program c.args.memory.now) c.args.method)) g.M.Memory.program g.M.Memory.world g.M.Memory.follows (method_at c.args.tables.now c.args.method).class c.args.memory.now c.args.stack.now
    (static_uses (g.M.Memory.program c.args.memory.now) c.args.tables.now (g.M.Memory.program c.args.memory.now) c.args.method (method_at c.args.tables.now c.args.method).class (argument_count (g.M.Memory.program c.args.memory.now) c.args.method) c.args.stack.now c.requires.row.0 refl refl refl) c.args.left.now c.begin_method_use.new.memory c.in_ok-begin_method_use.field-0 c.begin_method_use.new.stack c.begin_method_use.new.left (used.0, used.1.0, used.1.1)
    c.in-Begun.is in
    record { made = (ended.0, (ended.1, ended.2)) }

pub returns-in-Fault : goal.returns-in-Fault
returns-in-Fault g c =
    let used = c.in_ok-begin_method_use.ensures.made in
    let ended = fault_makes (call_row (form.InvokeStatic c.args.method)) (method_row c.args.method (argument_count (g.M.Memory.program c.args.memory.now) c.args.method)) g.M.Memory.program g.M.Memory.world g.M.Memory.follows (method_at c.args.tables.now c.args.method).class c.args.memory.now c.args.stack.now
    (static_uses (g.M.Memory.program c.args.memory.now) c.args.tables.now (g.M.Memory.program c.args.memory.now) c.args.method (method_at c.args.tables.now c.args.method).class (argument_count (g.M.Memory.program c.args.memory.now) c.args.method) c.args.stack.now c.requires.row.0 refl refl refl) c.args.left.now c.begin_method_use.new.memory c.in_ok-begin_method_use.field-0 c.begin_method_use.new.stack c.begin_method_use.new.left (used.0, used.1.0, used.1.1)
    c.in-Fault.class c.in-Fault.is c.in_ok-begin_method_use.ensures.entries in
    record { made = (ended.0, (ended.1, ended.2)) }

pub returns-in-Over : goal.returns-in-Over
returns-in-Over g c =
    let used = c.in_ok-begin_method_use.ensures.made in
    let ended = over_makes (call_row (form.InvokeStatic c.args.method)) (method_row c.args.method (argument_count (g.M.Memory.program c.args.memory.now) c.args.method)) g.M.Memory.program g.M.Memory.world g.M.Memory.follows (method_at c.args.tables.now c.args.method).class c.args.memory.now c.args.stack.now
    (static_uses (g.M.Memory.program c.args.memory.now) c.args.tables.now (g.M.Memory.program c.args.memory.now) c.args.method (method_at c.args.tables.now c.args.method).class (argument_count (g.M.Memory.program c.args.memory.now) c.args.method) c.args.stack.now c.requires.row.0 refl refl refl) c.args.left.now c.begin_method_use.new.memory c.in_ok-begin_method_use.field-0 c.begin_method_use.new.stack c.begin_method_use.new.left (used.0, used.1.0, used.1.1)
    c.in-Over.is in
    record { made = (ended.0, (ended.1, ended.2)) }
