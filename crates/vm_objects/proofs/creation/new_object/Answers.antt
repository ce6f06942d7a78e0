use Rattle.std.proofs.Common.{sym, ◌∙◌}
use Rattle.jvm_model.specs.declared.instr.Instr.TheVariants as form
use Rattle.vm_objects.specs.Forms.{create_row, object_row}
use Rattle.class_init.proofs.Using.{row_usable, ready_row, ready_makes, begun_makes, fault_makes, over_makes}
use Rattle.vm_objects.proofs.Using.{new_uses}
use Rattle.vm_objects.proofs.creation.new_object.Goals as goal

pub begin_use-requires : goal.begin_use-requires
begin_use-requires g c =
    record { safe = row_usable (create_row (form.New c.args.class)) (object_row c.args.class) g.M.Memory.program g.M.Memory.world g.M.Memory.follows c.args.class c.args.memory.now c.args.stack.now (new_uses (g.M.Memory.program c.args.memory.now) c.program.result.now c.args.class c.args.stack.now c.is_bare.result (c.program.ensures ∙ c.requires.row.0) c.is_bare.ensures c.if-is_bare.false) c.args.tables.now c.requires.row }

pub make_object-requires-clause-row : goal.make_object-requires-clause-row
make_object-requires-clause-row g c =
    let used = c.in_ok-begin_use.ensures.made in
    ready_row (create_row (form.New c.args.class)) (object_row c.args.class) g.M.Memory.program g.M.Memory.world g.M.Memory.follows c.args.class c.args.memory.now c.args.stack.now (new_uses (g.M.Memory.program c.args.memory.now) c.program.result.now c.args.class c.args.stack.now c.is_bare.result (c.program.ensures ∙ c.requires.row.0) c.is_bare.ensures c.if-is_bare.false) c.args.left.now c.begin_use.new.memory c.in_ok-begin_use.field-0 c.begin_use.new.stack c.begin_use.new.left (used.0, used.1.0, used.1.1) c.args.tables.now c.args.tables.now c.in-Ready.is c.in_ok-begin_use.ensures.entries (c.requires.row.0 ∙ sym used.0) c.requires.row

pub returns-in-Ready : goal.returns-in-Ready
returns-in-Ready g c =
    let used = c.in_ok-begin_use.ensures.made in
    record { made = ready_makes (create_row (form.New c.args.class)) (object_row c.args.class) g.M.Memory.program g.M.Memory.world g.M.Memory.follows c.args.class c.args.memory.now c.args.stack.now (new_uses (g.M.Memory.program c.args.memory.now) c.program.result.now c.args.class c.args.stack.now c.is_bare.result (c.program.ensures ∙ c.requires.row.0) c.is_bare.ensures c.if-is_bare.false) c.args.left.now c.begin_use.new.memory c.in_ok-begin_use.field-0 c.begin_use.new.stack c.begin_use.new.left (used.0, used.1.0, used.1.1) c.make_object.new.memory c.make_object.result c.make_object.new.stack c.make_object.new.left c.in-Ready.is c.in_ok-begin_use.ensures.entries c.make_object.ensures.made }

pub returns-in-Begun : goal.returns-in-Begun
returns-in-Begun g c =
    let used = c.in_ok-begin_use.ensures.made in
    let ended = begun_makes (create_row (form.New c.args.class)) (object_row c.args.class) g.M.Memory.program g.M.Memory.world g.M.Memory.follows c.args.class c.args.memory.now c.args.stack.now (new_uses (g.M.Memory.program c.args.memory.now) c.program.result.now c.args.class c.args.stack.now c.is_bare.result (c.program.ensures ∙ c.requires.row.0) c.is_bare.ensures c.if-is_bare.false) c.args.left.now c.begin_use.new.memory c.in_ok-begin_use.field-0 c.begin_use.new.stack c.begin_use.new.left (used.0, used.1.0, used.1.1) c.in-Begun.is in
    record { made = (ended.0, (ended.1, ended.2)) }

pub returns-in-Fault : goal.returns-in-Fault
returns-in-Fault g c =
    let used = c.in_ok-begin_use.ensures.made in
    let ended = fault_makes (create_row (form.New c.args.class)) (object_row c.args.class) g.M.Memory.program g.M.Memory.world g.M.Memory.follows c.args.class c.args.memory.now c.args.stack.now (new_uses (g.M.Memory.program c.args.memory.now) c.program.result.now c.args.class c.args.stack.now c.is_bare.result (c.program.ensures ∙ c.requires.row.0) c.is_bare.ensures c.if-is_bare.false) c.args.left.now c.begin_use.new.memory c.in_ok-begin_use.field-0 c.begin_use.new.stack c.begin_use.new.left (used.0, used.1.0, used.1.1) c.in-Fault.class c.in-Fault.is c.in_ok-begin_use.ensures.entries in
    record { made = (ended.0, (ended.1, ended.2)) }

pub returns-in-Over : goal.returns-in-Over
returns-in-Over g c =
    let used = c.in_ok-begin_use.ensures.made in
    let ended = over_makes (create_row (form.New c.args.class)) (object_row c.args.class) g.M.Memory.program g.M.Memory.world g.M.Memory.follows c.args.class c.args.memory.now c.args.stack.now (new_uses (g.M.Memory.program c.args.memory.now) c.program.result.now c.args.class c.args.stack.now c.is_bare.result (c.program.ensures ∙ c.requires.row.0) c.is_bare.ensures c.if-is_bare.false) c.args.left.now c.begin_use.new.memory c.in_ok-begin_use.field-0 c.begin_use.new.stack c.begin_use.new.left (used.0, used.1.0, used.1.1) c.in-Over.is in
    record { made = (ended.0, (ended.1, ended.2)) }
