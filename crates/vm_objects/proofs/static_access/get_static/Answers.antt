use Rattle.std.proofs.Common.{refl, ◌∙◌}
use Rattle.jvm_model.specs.declared.instr.Instr.TheVariants as form
use Rattle.vm_objects.specs.Forms.{static_row, read_row}
use Rattle.class_init.proofs.Using.{row_usable, ready_row, ready_makes, begun_makes, fault_makes, over_makes}
use Rattle.vm_objects.proofs.Using.{get_uses}
use Rattle.vm_objects.proofs.static_access.get_static.Goals as goal

pub begin_use-requires : goal.begin_use-requires
begin_use-requires g c =
    record { safe = row_usable (static_row (form.GetStatic c.args.field)) (read_row c.args.field) g.M.Memory.program g.M.Memory.world g.M.Memory.follows c.field_class.result c.args.memory.now c.args.stack.now (get_uses (g.M.Memory.program c.args.memory.now) c.program.result.now c.args.field c.field_class.result c.args.stack.now (c.program.ensures ∙ c.requires.row.0) c.field_class.ensures) c.args.tables.now c.requires.row }

pub read_static-requires-clause-row : goal.read_static-requires-clause-row
read_static-requires-clause-row g c =
    let used = c.in_ok-begin_use.ensures.made in
    ready_row (static_row (form.GetStatic c.args.field)) (read_row c.args.field) g.M.Memory.program g.M.Memory.world g.M.Memory.follows c.field_class.result c.args.memory.now c.args.stack.now (get_uses (g.M.Memory.program c.args.memory.now) c.program.result.now c.args.field c.field_class.result c.args.stack.now (c.program.ensures ∙ c.requires.row.0) c.field_class.ensures) c.args.left.now c.begin_use.new.memory c.in_ok-begin_use.field-0 c.begin_use.new.stack c.begin_use.new.left (used.0, used.1.0, used.1.1) c.args.tables.now (g.M.Memory.program c.begin_use.new.memory) c.in-Ready.is c.in_ok-begin_use.ensures.entries refl c.requires.row

pub returns-in-Ready : goal.returns-in-Ready
returns-in-Ready g c =
    let used = c.in_ok-begin_use.ensures.made in
    record { made = ready_makes (static_row (form.GetStatic c.args.field)) (read_row c.args.field) g.M.Memory.program g.M.Memory.world g.M.Memory.follows c.field_class.result c.args.memory.now c.args.stack.now (get_uses (g.M.Memory.program c.args.memory.now) c.program.result.now c.args.field c.field_class.result c.args.stack.now (c.program.ensures ∙ c.requires.row.0) c.field_class.ensures) c.args.left.now c.begin_use.new.memory c.in_ok-begin_use.field-0 c.begin_use.new.stack c.begin_use.new.left (used.0, used.1.0, used.1.1) c.read_static.new.memory c.read_static.result c.read_static.new.stack c.read_static.new.left c.in-Ready.is c.in_ok-begin_use.ensures.entries c.read_static.ensures.made }

pub returns-in-Begun : goal.returns-in-Begun
returns-in-Begun g c =
    let used = c.in_ok-begin_use.ensures.made in
    let ended = begun_makes (static_row (form.GetStatic c.args.field)) (read_row c.args.field) g.M.Memory.program g.M.Memory.world g.M.Memory.follows c.field_class.result c.args.memory.now c.args.stack.now (get_uses (g.M.Memory.program c.args.memory.now) c.program.result.now c.args.field c.field_class.result c.args.stack.now (c.program.ensures ∙ c.requires.row.0) c.field_class.ensures) c.args.left.now c.begin_use.new.memory c.in_ok-begin_use.field-0 c.begin_use.new.stack c.begin_use.new.left (used.0, used.1.0, used.1.1) c.in-Begun.is in
    record { made = (ended.0, (ended.1, ended.2)) }

pub returns-in-Fault : goal.returns-in-Fault
returns-in-Fault g c =
    let used = c.in_ok-begin_use.ensures.made in
    let ended = fault_makes (static_row (form.GetStatic c.args.field)) (read_row c.args.field) g.M.Memory.program g.M.Memory.world g.M.Memory.follows c.field_class.result c.args.memory.now c.args.stack.now (get_uses (g.M.Memory.program c.args.memory.now) c.program.result.now c.args.field c.field_class.result c.args.stack.now (c.program.ensures ∙ c.requires.row.0) c.field_class.ensures) c.args.left.now c.begin_use.new.memory c.in_ok-begin_use.field-0 c.begin_use.new.stack c.begin_use.new.left (used.0, used.1.0, used.1.1) c.in-Fault.class c.in-Fault.is c.in_ok-begin_use.ensures.entries in
    record { made = (ended.0, (ended.1, ended.2)) }

pub returns-in-Over : goal.returns-in-Over
returns-in-Over g c =
    let used = c.in_ok-begin_use.ensures.made in
    let ended = over_makes (static_row (form.GetStatic c.args.field)) (read_row c.args.field) g.M.Memory.program g.M.Memory.world g.M.Memory.follows c.field_class.result c.args.memory.now c.args.stack.now (get_uses (g.M.Memory.program c.args.memory.now) c.program.result.now c.args.field c.field_class.result c.args.stack.now (c.program.ensures ∙ c.requires.row.0) c.field_class.ensures) c.args.left.now c.begin_use.new.memory c.in_ok-begin_use.field-0 c.begin_use.new.stack c.begin_use.new.left (used.0, used.1.0, used.1.1) c.in-Over.is in
    record { made = (ended.0, (ended.1, ended.2)) }
