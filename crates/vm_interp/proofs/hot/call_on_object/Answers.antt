use Rattle.vm_calls.specs.Calls.{object_row}
use Rattle.vm_interp.specs.Rows.{form_row}
use Rattle.vm_interp.proofs.Found.{flow_as, ready_as}
use Rattle.vm_interp.proofs.hot.call_on_object.Goals as goal

pub invoke_on_object-requires-clause-row : goal.invoke_on_object-requires-clause-row
invoke_on_object-requires-clause-row g c = ready_as (form_row c.args.form.now) (object_row c.called_on_object-interface.result.0 c.called_on_object-interface.result.1)
    c.args.tables.now g.M.Memory.program g.M.Memory.world c.args.memory.now c.args.stack.now c.called_on_object-interface.ensures c.requires.row

pub returns-clause-made : goal.returns-clause-made
returns-clause-made g c = (
  c.in_ok-answer.ensures.made.0,
  (
    flow_as (form_row c.args.form.now) (object_row c.called_on_object-interface.result.0 c.called_on_object-interface.result.1)
        g.M.Memory.program g.M.Memory.world g.M.Memory.follows c.args.memory.now c.invoke_on_object.new.memory c.args.stack.now c.invoke_on_object.new.stack c.args.left.now c.invoke_on_object.new.left
        c.in_ok-answer.answer c.called.result c.called_on_object-interface.ensures c.called.ensures.answered c.called.ensures.counted c.in_ok-answer.ensures.made.1,
    c.called.ensures.one,
  ),
)
