use Rattle.std.proofs.lemmas.Result.{IfOk-weaker}
use Rattle.vm_interp.proofs.Laws.{all_safe, typed_left}
use Rattle.vm_interp.proofs.running.run_frames.Goals as goal

pub run_safe-requires-clause-safe : goal.run_safe-requires-clause-safe
run_safe-requires-clause-safe g c = all_safe c.args.tables.now c.requires.checked c.requires.limits
    c.step_law.ensures.stays c.reach_law.ensures.alone c.reach_law.ensures.room c.reach_law.ensures.returned c.reach_law.ensures.answered c.reach_law.ensures.reached
    c.args.state.now.test (g.M.Memory.world c.args.memory.now) c.requires.typed c.requires.low c.requires.high

pub returns-clause-left : goal.returns-clause-left
returns-clause-left g c = IfOk-weaker c.run_safe.result _ _
    (λ v e. typed_left c.reach_law.ensures.left c.args.tables.now c.args.state.now.test c.args.left.now (g.M.Memory.world c.args.memory.now) v c.run_safe.new.state (g.M.Memory.world c.run_safe.new.memory) c.run_safe.new.left
    c.requires.checked c.requires.typed c.requires.low c.requires.high e)
    c.run_safe.ensures.gives
