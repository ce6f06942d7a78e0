use Rattle.std.proofs.Common.{◌+◌, ◌^◌, ◌<◌, ◌-◌, ◌∙◌, ℕ, List, length, reverse, ap, subst, sym}
use Rattle.order_law.specs.Plan.{posts}
use Rattle.run_core.specs.{Refusal.HasNone, Refusal.HasOpen, Run.Run, Run.history}
use Rattle.run_core.proofs.Answers.{posts_few}
use Rattle.run_core.proofs.history.Core.refusal_of_post.Goals as goal

pub returns-in_default : goal.returns-in_default
returns-in_default c = subst (HasNone c.args.self.now.chains (history c.args.self.now)) c.worker.ensures c.in_default.ensures

pub first_difference-requires : goal.first_difference-requires
first_difference-requires c =
    let w = c.worker.result in
    let few = subst (λ (r : Run). HasOpen r.chains (history r) w (c.in-Some.open.chain - 1) c.in-Some.open.test → length (reverse (posts (history r) w)) + 1 < 2 ^ 32) c.self.view_is
    (posts_few c.self.invariant w (c.in-Some.open.chain - 1) c.in-Some.open.test) c.in-Some.ensures.1 in
    subst (λ (l : List ℕ). length l + 1 < 2 ^ 32) (sym (c.posts-before.ensures ∙ ap (λ (z : ℕ). reverse (posts (history c.args.self.now) z)) (c.worker-2.ensures ∙ sym c.worker.ensures))) few
