use Rattle.std.proofs.Common.{◌-◌, ◌<◌, MatchOption, subst, sym}
use Rattle.run_core.specs.{Refusal.HasNone, Refusal.HasOpen, Run.Run, Run.history, Run.IsWorker}
use Rattle.run_core.proofs.Answers.{opened, hand_fits}
use Rattle.run_core.proofs.history.Core.open.Goals as goal

pub open_of-requires-clause-fit : goal.open_of-requires-clause-fit
open_of-requires-clause-fit c =
    let range = subst (λ (r : Run). IsWorker r c.args.worker) (sym c.self.view_is) c.requires in
    hand_fits c.self.invariant c.args.worker range.0 range.1

pub returns : goal.returns
returns c = subst (λ (r : Run). IsWorker r c.args.worker → MatchOption c.open_of.result (HasNone r.chains (history r) c.args.worker) (λ x. (0 < x.chain) × HasOpen r.chains (history r) c.args.worker (x.chain - 1) x.test))
    c.self.view_is (λ range. opened c.self.invariant c.args.worker range.0 range.1 c.open_of.result c.open_of.ensures) c.requires
