use Rattle.std.proofs.Common.{◌∙◌}
use Rattle.std.proofs.lemmas.Result.{IfOk-weaker}
use Rattle.cone_run.proofs.cone_pool.machine_of.Goals as goal

pub returns : goal.returns
returns g c = IfOk-weaker c.fresh_machine.result _ _ (λ m h. h.0 ∙ c.requires.program) c.fresh_machine.ensures
