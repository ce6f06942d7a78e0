use Rattle.std.proofs.Common.{◌∙◌, ap, ℕ}
use Rattle.vm_tables.specs.Methods.{return_unit}
use Rattle.vm_calls.proofs.Returned.{value_made}
use Rattle.vm_calls.proofs.returning.give_back.Goals as goal

pub returns-in-Some : goal.returns-in-Some
returns-in-Some g c =
    record {
      made = value_made g.M.Memory.program g.M.Memory.world g.M.Memory.follows c.args.tables.now c.args.of c.in-Some.field-0 c.return_unit-unit.result c.args.memory.now c.args.stack.now c.hand_top.new.stack c.args.left.now c.hand_top.new.left c.hand_top.result
          c.requires.row c.in-Some.is (c.return_unit-unit.ensures ∙ ap (λ (n : ℕ). return_unit c.args.tables.now n) c.number.ensures) c.hand_top.ensures;
    }
