use Rattle.std.proofs.Common.{◌↔◌, IsTrue, subst}
use Rattle.run_core.specs.Run.{Run, IsComplete}
use Rattle.run_core.proofs.Answers.{completes, completed}
use Rattle.run_core.proofs.history.Core.is_complete.Goals as goal

pub returns : goal.returns
returns c = subst (λ (r : Run). IsTrue c.all_done.result ↔ IsComplete r) c.self.view_is ((λ t. completes c.self.invariant (c.all_done.ensures.0 t)), (λ d. c.all_done.ensures.1 (completed c.self.invariant d)))
