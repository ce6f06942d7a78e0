use Rattle.jvm_model.specs.declared.instr.Instr.TheVariants as form
use Rattle.jvm_model.specs.declared.instr.Cell.TheVariants as cell
use Rattle.vm_objects.specs.Forms.{field_row, array_row, cast_row, static_row, create_row}
use Rattle.vm_interp.proofs.Found.{row_falls}
use Rattle.vm_interp.proofs.hot.hot_form.Goals as goal

pub classify_flow-requires : goal.classify_flow-requires
classify_flow-requires g c = record {
  counted = λ e.
      (row_falls g.M.Memory.program g.M.Memory.world (field_row (form.GetField 0 c.in-GetField.field)) c.args.memory.now c.get_field.new.memory c.args.stack.now c.get_field.new.stack c.args.left.now c.get_field.new.left c.in_ok-answer-in-GetField.answer e c.in_ok-answer-in-GetField.ensures.made.1.0);
}

pub classify_flow-requires-in-PutField : goal.classify_flow-requires-in-PutField
classify_flow-requires-in-PutField g c = record {
  counted = λ e.
      (row_falls g.M.Memory.program g.M.Memory.world (field_row (form.PutField 0 c.in-PutField.field)) c.args.memory.now c.put_field.new.memory c.args.stack.now c.put_field.new.stack c.args.left.now c.put_field.new.left c.in_ok-answer-in-PutField.answer e c.in_ok-answer-in-PutField.ensures.made.1.0);
}

pub classify_flow-requires-in-ArrayLength : goal.classify_flow-requires-in-ArrayLength
classify_flow-requires-in-ArrayLength g c = record {
  counted = λ e.
      (row_falls g.M.Memory.program g.M.Memory.world (array_row form.ArrayLength) c.args.memory.now c.array_length.new.memory c.args.stack.now c.array_length.new.stack c.args.left.now c.array_length.new.left c.in_ok-answer-in-ArrayLength.answer e c.in_ok-answer-in-ArrayLength.ensures.made.1.0);
}

pub classify_flow-requires-in-ArrayLoad : goal.classify_flow-requires-in-ArrayLoad
classify_flow-requires-in-ArrayLoad g c = record {
  counted = λ e.
      (row_falls g.M.Memory.program g.M.Memory.world (array_row (form.ArrayLoad cell.Ref)) c.args.memory.now c.array_load.new.memory c.args.stack.now c.array_load.new.stack c.args.left.now c.array_load.new.left c.in_ok-answer-in-ArrayLoad.answer e c.in_ok-answer-in-ArrayLoad.ensures.made.1.0);
}

pub classify_flow-requires-in-ArrayStore-Int : goal.classify_flow-requires-in-ArrayStore-Int
classify_flow-requires-in-ArrayStore-Int g c = record {
  counted = λ e.
      (row_falls g.M.Memory.program g.M.Memory.world (array_row (form.ArrayStore cell.Int)) c.args.memory.now c.array_store_number.new.memory c.args.stack.now c.array_store_number.new.stack c.args.left.now c.array_store_number.new.left c.in_ok-answer-in-ArrayStore-Int.answer e c.in_ok-answer-in-ArrayStore-Int.ensures.made.1.0);
}

pub classify_flow-requires-in-CheckCast : goal.classify_flow-requires-in-CheckCast
classify_flow-requires-in-CheckCast g c = record {
  counted = λ e.
      (row_falls g.M.Memory.program g.M.Memory.world (cast_row (form.CheckCast c.in-CheckCast.kind)) c.args.memory.now c.check_cast.new.memory c.args.stack.now c.check_cast.new.stack c.args.left.now c.check_cast.new.left c.in_ok-answer-in-CheckCast.answer e c.in_ok-answer-in-CheckCast.ensures.made.1.0);
}

pub classify_flow-requires-in-InstanceOf : goal.classify_flow-requires-in-InstanceOf
classify_flow-requires-in-InstanceOf g c = record {
  counted = λ e.
      (row_falls g.M.Memory.program g.M.Memory.world (cast_row (form.InstanceOf c.in-InstanceOf.kind)) c.args.memory.now c.instance_of.new.memory c.args.stack.now c.instance_of.new.stack c.args.left.now c.instance_of.new.left c.in_ok-answer-in-InstanceOf.answer e c.in_ok-answer-in-InstanceOf.ensures.made.1.0);
}

pub classify_flow-requires-in-GetStatic : goal.classify_flow-requires-in-GetStatic
classify_flow-requires-in-GetStatic g c = record {
  counted = λ e.
      (row_falls g.M.Memory.program g.M.Memory.world (static_row (form.GetStatic c.in-GetStatic.field)) c.args.memory.now c.get_static.new.memory c.args.stack.now c.get_static.new.stack c.args.left.now c.get_static.new.left c.in_ok-answer-in-GetStatic.answer e c.in_ok-answer-in-GetStatic.ensures.made.1.0);
}

pub classify_flow-requires-in-PutStatic : goal.classify_flow-requires-in-PutStatic
classify_flow-requires-in-PutStatic g c = record {
  counted = λ e.
      (row_falls g.M.Memory.program g.M.Memory.world (static_row (form.PutStatic c.in-PutStatic.field)) c.args.memory.now c.put_static.new.memory c.args.stack.now c.put_static.new.stack c.args.left.now c.put_static.new.left c.in_ok-answer-in-PutStatic.answer e c.in_ok-answer-in-PutStatic.ensures.made.1.0);
}

pub classify_flow-requires-in-New : goal.classify_flow-requires-in-New
classify_flow-requires-in-New g c = record {
  counted = λ e.
      (row_falls g.M.Memory.program g.M.Memory.world (create_row (form.New c.in-New.class)) c.args.memory.now c.new_object.new.memory c.args.stack.now c.new_object.new.stack c.args.left.now c.new_object.new.left c.in_ok-answer-in-New.answer e c.in_ok-answer-in-New.ensures.made.1.0);
}
