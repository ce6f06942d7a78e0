use Rattle.std.proofs.Common.{MatchOption, subst, sym}
use Rattle.jvm_model.specs.declared.outcome.Outcome.{Outcome}
use Rattle.order_law.specs.Plan.{Posted}
use Rattle.run_core.specs.Run.{Run, Gave, history, history_of}
use Rattle.run_core.proofs.Answers.{copied, sound}
use Rattle.run_core.proofs.history.Core.outcome.Goals as goal

pub returns : goal.returns
returns c =
    let es = history_of c.self.inside.history.items in
    subst (λ (r : Run). MatchOption c.find_outcome.result (Posted (history r) c.args.test → ⊥) (λ o. Gave (history r) c.args.test o.now)) c.self.view_is
    (copied c.find_outcome.result (Posted es c.args.test → ⊥) (λ (o : Outcome). Gave es c.args.test o)
    (subst (λ z. MatchOption z (Posted es c.args.test → ⊥) (λ (o : Outcome). Gave es c.args.test o)) (sym c.find_outcome.ensures) (sound c.self.inside.history.items c.args.test)))
