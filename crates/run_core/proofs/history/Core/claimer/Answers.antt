use Rattle.std.proofs.Common.{◌-◌, ◌≤◌, length, subst, sym, ℕ, arith}
use Rattle.run_core.specs.{Kept.IsClaimer, Run.Run, Run.history, Run.history_of}
use Rattle.run_core.proofs.history.Core.claimer.Goals as goal

pub returns : goal.returns
returns c =
    let some = c.requires.0 in
    subst (λ (r : Run). c.args.chain ≤ length r.chains → IsClaimer (history r) (c.args.chain - 1) c.claimer_of.result) c.self.view_is
    (λ low. subst (λ (z : ℕ). IsClaimer (history_of c.self.inside.history.items) (c.args.chain - 1) z) (sym c.claimer_of.ensures) (c.self.invariant.tables.by (c.args.chain - 1) (omega arith))) c.requires.1
