use Rattle.std.proofs.Common.{[], false, subst}
use Rattle.std.specs.Prelude.{take, drop, ◌-◌}
use Rattle.jvm_model.specs.declared.instr.Instr.TheVariants as form
use Rattle.jvm_model.specs.View.{IsSafe, IsRow}
use Rattle.vm_objects.specs.{Forms.create_row, Nests.nested_row}
use Rattle.vm_objects.proofs.Lengths.{ints_there, row_multi, row_taken, same_makes}
use Rattle.vm_objects.proofs.nesting.multi_new_array.Goals as goal

pub take_lengths-requires-clause-operands : goal.take_lengths-requires-clause-operands
take_lengths-requires-clause-operands g c =
    ints_there (g.M.Memory.program c.args.memory.now) c.args.kind c.args.stack.now (g.M.Memory.world c.args.memory.now) c.args.dims c.args.stack.now.top.stack false []
    (subst (λ r. IsSafe IsRow r (g.M.Memory.world c.args.memory.now)) (row_multi (g.M.Memory.program c.args.memory.now) c.args.kind c.args.dims c.args.stack.now) c.requires.row.1)

pub returns-in-Some : goal.returns-in-Some
returns-in-Some g c =
    record { made = same_makes (create_row (form.MultiNewArray c.args.kind c.args.dims)) (nested_row c.args.kind (take (255 - c.in-Some.start) (drop c.in-Some.start c.take_lengths.new.lengths))) g.M.Memory.program g.M.Memory.world g.M.Memory.follows c.args.memory.now c.args.stack.now c.take_lengths.new.stack (row_taken (g.M.Memory.program c.args.memory.now) c.args.kind c.args.dims c.args.stack.now c.take_lengths.new.stack c.take_lengths.new.lengths 255 c.take_lengths.result c.in-Some.start c.take_lengths.array_long (c.take_lengths.ensures.same (g.M.Memory.program c.args.memory.now) c.args.kind c.args.stack.now) c.in-Some.is c.take_lengths.ensures.kept) c.put_nested.new.memory c.args.left.now c.put_nested.result c.put_nested.new.stack c.put_nested.new.left c.put_nested.ensures.made }
