use Rattle.std.proofs.Common.{◌≡◌, ◌∙◌, reverse, subst}
use Rattle.order_law.specs.Plan.{posts}
use Rattle.run_core.specs.Run.{Run, history}
use Rattle.run_core.proofs.history.Core.posts.Goals as goal

pub returns : goal.returns
returns c = subst (λ (r : Run). c.last_list.result.now ≡ reverse (posts (history r) c.args.worker)) c.self.view_is (c.last_list.ensures ∙ c.self.invariant.lists c.args.worker)
