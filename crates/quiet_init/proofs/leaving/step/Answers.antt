use Rattle.std.proofs.Common.{◌∙◌, ap, sym, refl}
use Rattle.jvm_model.specs.{Classes.next_place, Entries.Entries, Entries.with_place}
use Rattle.vm_tables.proofs.FieldUnits.{field_narrowed}
use Rattle.quiet_init.proofs.Leaves.{get_done, put_done, put_pops, default_calm, calm_there, calm_room, calm_does, calm_keeps}
use Rattle.quiet_init.proofs.leaving.step.Goals as goal

pub pop_value-value-requires : goal.pop_value-value-requires
pop_value-value-requires c = put_pops c.args.tables.now c.args.form.now c.in-PutStatic.field c.args.stack.now c.args.memory.now c.in-PutStatic.is c.requires.can

pub move_operands-requires : goal.move_operands-requires
move_operands-requires c =
    let calm = default_calm c.args.tables.now c.args.form.now c.args.memory.now c.requires.can.served c.in_default.not-GetStatic c.in_default.not-PutStatic in
    record { form = calm; row = calm_there c.args.tables.now c.args.stack.now c.args.memory.now c.args.form.now calm c.requires.can.has_row; room = calm_room c.args.form.now c.args.stack.now calm c.requires.can.room }

pub returns-in-GetStatic-clause-does : goal.returns-in-GetStatic-clause-does
returns-in-GetStatic-clause-does c =
    let n = c.next_place-next.ensures ∙ (λ i. next_place c.args.tables.now (c.number.ensures i) (c.pc.ensures i)) in
    get_done c.args.tables.now c.args.form.now c.in-GetStatic.field c.args.stack.now c.args.memory.now c.get_static.result c.next_place-next.result c.set_pc.new.self c.in-GetStatic.is c.requires.can
    c.get_static.ensures n (c.set_pc.ensures ∙ ap (λ (s : Entries). with_place s c.next_place-next.result) c.push_value.ensures)

pub returns-in-PutStatic-clause-does : goal.returns-in-PutStatic-clause-does
returns-in-PutStatic-clause-does c =
    let n = c.next_place-next.ensures ∙ (λ i. next_place c.args.tables.now (c.number.ensures i) (c.pc.ensures i)) in
    put_done c.args.tables.now c.args.form.now c.in-PutStatic.field c.args.stack.now c.pop_value-value.new.self c.args.memory.now c.put_static.new.self c.pop_value-value.result c.narrow.result c.next_place-next.result c.set_pc-in-PutStatic.new.self
    c.in-PutStatic.is c.requires.can c.pop_value-value.ensures.popped
    (c.narrow.ensures ∙ field_narrowed c.args.tables.now c.args.tables.now c.in-PutStatic.field c.field_unit.result c.pop_value-value.result refl c.field_unit.ensures) n c.set_pc-in-PutStatic.ensures c.put_static.ensures

pub returns-in_default-clause-does : goal.returns-in_default-clause-does
returns-in_default-clause-does c =
    let calm = default_calm c.args.tables.now c.args.form.now c.args.memory.now c.requires.can.served c.in_default.not-GetStatic c.in_default.not-PutStatic in
    let n = c.next_place-next.ensures ∙ (λ i. next_place c.args.tables.now (c.number.ensures i) (c.pc.ensures i)) in
    calm_does c.args.tables.now c.args.form.now c.next_place-next.result c.args.stack.now c.move_operands.new.stack c.args.memory.now calm n c.move_operands.ensures

pub returns-in-GetStatic-clause-below : goal.returns-in-GetStatic-clause-below
returns-in-GetStatic-clause-below c = ap (λ (s : Entries). s.below) (c.set_pc.ensures ∙ ap (λ (s : Entries). with_place s c.next_place-next.result) c.push_value.ensures)

pub returns-in-PutStatic-clause-below : goal.returns-in-PutStatic-clause-below
returns-in-PutStatic-clause-below c = ap (λ (s : Entries). s.below) c.set_pc-in-PutStatic.ensures ∙ sym (ap (λ (s : Entries). s.below) c.pop_value-value.ensures.popped)

pub returns-in_default-clause-below : goal.returns-in_default-clause-below
returns-in_default-clause-below c =
    let calm = default_calm c.args.tables.now c.args.form.now c.args.memory.now c.requires.can.served c.in_default.not-GetStatic c.in_default.not-PutStatic in
    let n = c.next_place-next.ensures ∙ (λ i. next_place c.args.tables.now (c.number.ensures i) (c.pc.ensures i)) in
    calm_keeps c.args.tables.now c.args.form.now c.next_place-next.result c.args.stack.now c.move_operands.new.stack c.args.memory.now calm n c.move_operands.ensures
