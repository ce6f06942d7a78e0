use Rattle.std.proofs.Common.{◌≤◌, length, subst}
use Rattle.run_core.specs.Run.{Run, most_events}
use Rattle.run_core.proofs.Answers.{events_few}
use Rattle.run_core.proofs.history.Core.history.Goals as goal

pub returns-clause-few : goal.returns-clause-few
returns-clause-few c = subst (λ (r : Run). length r.events ≤ most_events r.chains) c.self.view_is (events_few c.self.invariant)
