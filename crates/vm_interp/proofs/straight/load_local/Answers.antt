use Rattle.jvm_model.specs.declared.instr.Sort.TheVariants as sort
use Rattle.vm_interp.proofs.straight.load_local.Goals as goal

pub returns : goal.returns
returns c = c.load.ensures sort.Int
