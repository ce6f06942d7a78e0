use Rattle.jvm_model.specs.declared.instr.Sort.TheVariants as sort
use Rattle.vm_interp.proofs.straight.store_local.Goals as goal

pub returns : goal.returns
returns c = c.store.ensures sort.Int
