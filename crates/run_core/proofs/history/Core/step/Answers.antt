use Rattle.run_core.proofs.Answers.{named}
use Rattle.run_core.proofs.history.Core.step.Goals as goal

pub returns-in-Some-clause-names : goal.returns-in-Some-clause-names
returns-in-Some-clause-names c = named c.args.self.now c.history-events.ensures.legal c.args.event c.in-Some.why c.in-Some.ensures.refused
