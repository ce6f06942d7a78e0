use Rattle.std.proofs.Common.{ap, ◌∙◌}
use Rattle.jvm_model.specs.{Access.Access, Access.spend, State.Turn}
use Rattle.vm_interp.specs.Driving.{first_part, object_part, static_part}
use Rattle.vm_interp.specs.Abs.{abs}
use Rattle.vm_interp.proofs.{Stepped.same_part, Used.first_static_is, Used.first_object_is}
use Rattle.vm_interp.proofs.driving.drive_first.Goals as goal

pub returns-then-is_static_method : goal.returns-then-is_static_method
returns-then-is_static_method g c = record {
  made = same_part g.M.Memory.program g.M.Memory.world g.M.Memory.follows first_part (static_part c.method_class-class.result c.test_entry-test.result.method) c.args.memory.now c.first_static.new.memory c.args.state.now c.args.left.now c.first_static.result c.first_static.new.state c.first_static.new.left
      (ap (λ (t : Access Turn). spend 1 t) (first_static_is (g.M.Memory.program c.args.memory.now) c.program-p.result.now (abs c.args.state.now) c.test_entry-test.result c.is_static_method.result c.method_class-class.result
      (c.program-p.ensures ∙ c.requires.fit.0) c.test_entry-test.ensures c.is_static_method.ensures c.method_class-class.ensures c.if-is_static_method.true))
      c.first_static.ensures.made;
}

pub returns-else-is_static_method : goal.returns-else-is_static_method
returns-else-is_static_method g c = record {
  made = same_part g.M.Memory.program g.M.Memory.world g.M.Memory.follows first_part (object_part c.test_entry-test.result.class) c.args.memory.now c.first_object.new.memory c.args.state.now c.args.left.now c.first_object.result c.first_object.new.state c.first_object.new.left
      (ap (λ (t : Access Turn). spend 1 t) (first_object_is (g.M.Memory.program c.args.memory.now) c.program-p.result.now (abs c.args.state.now) c.test_entry-test.result c.is_static_method.result
      (c.program-p.ensures ∙ c.requires.fit.0) c.test_entry-test.ensures c.is_static_method.ensures c.if-is_static_method.false))
      c.first_object.ensures.made;
}
