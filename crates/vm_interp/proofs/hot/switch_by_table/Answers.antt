use Rattle.std.proofs.Common.{ℤ, subst, w32}
use Rattle.std.proofs.lemmas.Int.{to_z-of_z}
use Rattle.jvm_model.specs.declared.instr.Instr.TheVariants as form
use Rattle.vm_arith.specs.Pure.{GoesTo}
use Rattle.vm_interp.proofs.Found.{target_made}
use Rattle.vm_interp.proofs.hot.switch_by_table.Goals as goal

pub returns-clause-made : goal.returns-clause-made
returns-clause-made g c = target_made g.M.Memory.program g.M.Memory.world g.M.Memory.follows c.args._memory.now (form.Table c.args.low c.args.targets.now c.args.other) c.table_switch-to.result c.args.stack.now c.table_switch-to.new.stack c.set_pc.new.self c.args._left
    (subst (λ (n : ℤ). GoesTo (form.Table n c.args.targets.now c.args.other) c.table_switch-to.result c.args.stack.now c.table_switch-to.new.stack) (to_z-of_z w32 c.args.low c.ranges.low) c.table_switch-to.ensures)
    c.set_pc.ensures c.requires.units
