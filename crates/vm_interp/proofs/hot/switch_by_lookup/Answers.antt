use Rattle.jvm_model.specs.declared.instr.Instr.TheVariants as form
use Rattle.vm_interp.proofs.Found.{target_made}
use Rattle.vm_interp.proofs.hot.switch_by_lookup.Goals as goal

pub returns-clause-made : goal.returns-clause-made
returns-clause-made g c = target_made g.M.Memory.program g.M.Memory.world g.M.Memory.follows c.args._memory.now (form.Lookup c.args.pairs.now c.args.other) c.lookup_switch-to.result c.args.stack.now c.lookup_switch-to.new.stack c.set_pc.new.self c.args._left
    c.lookup_switch-to.ensures c.set_pc.ensures c.requires.units
