use Rattle.vm_interp.specs.Abs.{abs}
use Rattle.vm_interp.proofs.Laws.{can_step}
use Rattle.vm_interp.proofs.stepping.step.Goals as goal

pub step_safe-requires-clause-can : goal.step_safe-requires-clause-can
step_safe-requires-clause-can g c = can_step c.args.tables.now c.requires.checked c.requires.limits
    c.step_law.ensures.stays c.reach_law.ensures.alone c.reach_law.ensures.room c.reach_law.ensures.returned c.reach_law.ensures.answered
    (g.M.Memory.world c.args.memory.now) (abs c.args.state.now) c.requires.typed
